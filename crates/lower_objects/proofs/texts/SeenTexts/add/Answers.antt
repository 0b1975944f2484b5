use Rattle.std.proofs.Common.{ℕ, List, not, ap, ◌∙◌}
use Rattle.lowering_rules.specs.reference_rules.Objects.{has_text, with_text}
use Rattle.lower_objects.proofs.Keys.{has_key, texts_of, texts_with}
use Rattle.lower_objects.proofs.texts.SeenTexts.add.Goals as goal

pub returns-clause-added : goal.returns-clause-added
returns-clause-added c =
    c.in_ok-added.ensures.added
    ∙ ap not (has_key c.self.inside.texts.keys c.args.text)
    ∙ ap (λ (ts : List (List ℕ)). not (has_text c.args.text.now ts)) c.self.view_is

pub returns-clause-kept : goal.returns-clause-kept
returns-clause-kept c =
    ap texts_of c.in_ok-added.ensures.keys
    ∙ texts_with c.self.inside.texts.keys c.args.text
    ∙ ap (λ (ts : List (List ℕ)). with_text ts c.args.text.now) c.self.view_is
