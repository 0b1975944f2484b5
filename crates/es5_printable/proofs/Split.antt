-- The tests of an `if` and of a `try`, as those of their parts.
use Rattle.std.proofs.Common.{◌≡◌, ◌∙◌, Bool, true, false, ◌&&◌, ◌||◌, not, List, [], ◌∷◌, Option, Some, None, map, refl, rules, sym, ap}
use Rattle.std.specs.Prelude.{is_some}
use Rattle.std.specs.List.{list_all}
use Rattle.std.specs.Option.{option_map}
use Rattle.es_text.specs.declared.Span.{Span}
use Rattle.es5_ast.specs.declared.tree.Condition5.{Condition5}
use Rattle.es5_ast.specs.declared.tree.Stat5.{Stat5}
use Rattle.es5_ast.specs.declared.tree.Stat5.TheVariants as stat
use Rattle.es5_ast.specs.declared.tree.Element5.TheFolds.{the_lemmas}
use Rattle.es5_printable.specs.Parts.{are_closed, else_fits, maybe_fits}
use Rattle.es5_printable.specs.Printable.{FitStat, FitCondition, condition_fit, if_fits, ends_fit, stat_fit}

none-right : (b : Bool) → (b && false) ≡ false
none-right true = refl
none-right false = refl

all-right : (b : Bool) → (b && true) ≡ b
all-right true = refl
all-right false = refl

-- of the last condition, without an `else` and with one
alone : (a b : Bool) → a ≡ (true && (a && (true && true)))
alone true b = refl
alone false b = refl

with-else : (a b c d : Bool) → (((a && not b) && c) && d) ≡ (not b && (a && (true && (c && d))))
with-else true true c d = refl
with-else true false c d = refl
with-else false true c d = refl
with-else false false c d = refl

-- of one before another
mixed : (a b x d m e : Bool) → ((a && b) && (x && (d && (m && e)))) ≡ ((b && x) && (a && ((d && m) && e)))
mixed false b x d m e = sym (none-right (b && x))
mixed true false x d m e = refl
mixed true true false d m e = refl
mixed true true true false m e = refl
mixed true true true true m e = refl

if_splits : (inside : Bool) (c : FitCondition) (more : List FitCondition) (otherwise : Option FitStat)
    → if_fits inside c more otherwise ≡ (are_closed c more (is_some otherwise) && (c.fits inside && (list_all (λ d. d.fits inside) more && else_fits inside otherwise)))
if_splits inside c [] None = alone (c.fits inside) c.is_open
if_splits inside c [] (Some s) = with-else (c.fits inside) c.is_open (s.fits inside false) (not s.is_if)
if_splits inside c (d ∷ more) otherwise =
    ap (λ b. (c.fits inside && not c.is_open) && b) (if_splits inside d more otherwise)
    ∙ mixed (c.fits inside) (not c.is_open) (are_closed d more (is_some otherwise)) (d.fits inside) (list_all (λ e. e.fits inside) more) (else_fits inside otherwise)

pub ends_split : (inside : Bool) (handler last : Option (Bool → Bool)) → ends_fit inside handler last ≡ ((is_some handler || is_some last) && (maybe_fits inside handler && maybe_fits inside last))
ends_split inside None None = refl
ends_split inside None (Some b) = refl
ends_split inside (Some h) None = sym (all-right (h inside))
ends_split inside (Some h) (Some b) = refl

pub if_parts : (inside : Bool) (c : FitCondition) (more : List FitCondition) (otherwise : Option FitStat) (has_else a b d e : Bool)
    → has_else ≡ is_some otherwise → a ≡ are_closed c more has_else → b ≡ c.fits inside → d ≡ list_all (λ k. k.fits inside) more → e ≡ else_fits inside otherwise
    → (a && (b && (d && e))) ≡ if_fits inside c more otherwise
if_parts inside c more otherwise has_else a b d e h ha hb hd he =
    ap (λ x. x && (b && (d && e))) (ha ∙ ap (λ k. are_closed c more k) h)
    ∙ ap (λ x. are_closed c more (is_some otherwise) && (x && (d && e))) hb
    ∙ ap (λ x. are_closed c more (is_some otherwise) && (c.fits inside && (x && e))) hd
    ∙ ap (λ x. are_closed c more (is_some otherwise) && (c.fits inside && (list_all (λ k. k.fits inside) more && x))) he
    ∙ sym (if_splits inside c more otherwise)

pub if_shown : (span : Span) (first : Condition5) (more : List Condition5) (otherwise : Option Stat5) (inside top : Bool)
    → (stat_fit (stat.If span first more otherwise)).fits inside top ≡ if_fits inside (condition_fit first) (map condition_fit more) (option_map stat_fit otherwise)
if_shown span first more otherwise inside top = search (rules, the_lemmas)
