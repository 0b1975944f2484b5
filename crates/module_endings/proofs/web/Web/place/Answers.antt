use Rattle.std.proofs.Common.{◌∷◌, ◌++◌, [], refl, sym, ap, ◌∙◌}
use Rattle.std.specs.List.{list_any}
use Rattle.module_endings.specs.Places.{same_place}
use Rattle.module_endings.proofs.Placing.{not-true, placed-new}
use Rattle.module_endings.proofs.web.Web.place.Goals as goal

pub returns : goal.returns
returns c =
    placed-new c.args.place c.in_ok-at.at c.args.self.now _ c.requires
    (not-true (list_any (same_place c.args.place) c.args.self.now.places.keys) (sym c.if-not-is_new.false ∙ c.in_ok-at.ensures.added))
    c.in_ok-at.ensures.keys c.in_ok-at.ensures.stored
    (c.in_ok-push.ensures.items ∙ ap (λ z. c.args.self.now.users.items ++ z ∷ []) c.new.ensures) refl
