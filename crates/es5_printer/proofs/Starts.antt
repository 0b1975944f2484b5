-- What is written begins with.
use Rattle.std.proofs.Common.{◌≡◌, ℕ, Bool, true, false, List, [], ◌∷◌, map, refl, sym, ap, subst, ◌∙◌}
use Rattle.es_text.specs.declared.Span.{Span}
use Rattle.es_outside.specs.declared.events.Site.{Site}
use Rattle.es5_ast.specs.declared.tree.Link5.{Link5}
use Rattle.es5_ast.specs.declared.tree.Expr5.{Expr5}
use Rattle.es5_ast.specs.declared.tree.Expr5.TheVariants as expr
use Rattle.es5_ast.specs.declared.tree.Element5.TheOpen as layer
use Rattle.es5_ast.specs.Grammar.{level_primary}
use Rattle.es5_printer.specs.Pieces.{Piece, Shown, ShownLink, sites_of, begins_of, links_of, opens, is_bare, placed, in_place, shown, link_shown, expr_step}
use Rattle.es5_printer.proofs.Shown.{shown-Chain}

opens_sites : (ss : List Site) (rest : List Piece) → opens (sites_of ss rest) ≡ opens rest
opens_sites [] rest = refl
opens_sites (s ∷ ss) rest = opens_sites ss rest

pub opens_begins : (ls : List ShownLink) (rest : List Piece) → opens (begins_of ls rest) ≡ opens rest
opens_begins [] rest = refl
opens_begins (l ∷ ls) rest = opens_sites l.sites (begins_of ls rest) ∙ opens_begins ls rest

-- a chain opens as its head does
pub opens_chain : (x : Expr5) (span : Span) (head : Expr5) (links : List Link5) (least : ℕ) (b : Bool) (rest : List Piece) → x ≡ expr.Chain span head links → is_bare (shown x) false least ≡ true → ((r : List Piece) → b ≡ opens (in_place (shown head) false level_primary r)) → b ≡ opens (in_place (shown x) false least rest)
opens_chain x span head links least b rest e bare h =
    let s : Shown = expr_step (layer.Chain span (shown head) (map link_shown links)) in
    let P : Shown → Type 0 = λ w. is_bare w false least ≡ true → b ≡ opens (in_place w false least rest) in
    subst P (sym (ap shown e ∙ shown-Chain span head links)) (λ is_b. h (links_of (map link_shown links) rest) ∙ sym (opens_begins (map link_shown links) (in_place (shown head) false level_primary (links_of (map link_shown links) rest))) ∙ ap (λ w. opens (placed w s false rest)) (sym is_b)) bare
