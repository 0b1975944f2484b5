use Rattle.std.proofs.Common.{string_bytes, sym}
use Rattle.module_paths.proofs.Joins.{joined-all}
use Rattle.module_paths.proofs.segments.push_joined.Goals as goal

pub returns-in_ok-push_slashed-in-Some : goal.returns-in_ok-push_slashed-in-Some
returns-in_ok-push_slashed-in-Some c =
    joined-all (λ s. s.now) c.args.segments.now c.in-Some.first.now (string_bytes c.args.text.now) (string_bytes c.push_str.new.self) (string_bytes c.push_slashed.new.text)
    (sym c.in-Some.ensures.value) c.in_ok-push_str-in-Some.ensures.bytes
    c.in_ok-push_slashed-in-Some.ensures
