use Rattle.std.proofs.Common.{◌∙◌, [], ◌∷◌, ◌++◌, ap, map, string_bytes}
use Rattle.commands.proofs.Sampling.{print_stands_in}
use Rattle.commands.proofs.sample.print_alone.Goals as goal

pub unreachable-requires : goal.unreachable-requires
unreachable-requires c =
    print_stands_in _ _ _
    (ap (λ l. map (λ name. string_bytes name) l) (c.in_ok-push.ensures.items ∙ ap (λ l. l ++ c.in_ok-from_str.field-0 ∷ []) c.new-names.ensures.items)
    ∙ ap (λ b. b ∷ []) c.in_ok-from_str.ensures.ok) c.in-Err.ensures
