use Rattle.std.proofs.Common.{◌≡◌, ℕ, ◌≤◌, length, drop, get_or, List, [], ◌∷◌, refl, ◌&&◌, arith}
use Rattle.std.proofs.lemmas.List.{take_rest}
use Rattle.std.specs.List.{list_all}
use Rattle.es_outside.specs.HostNames.{is_ascii_identifier, starts_identifier, continues_identifier}
use Rattle.emit_names.proofs.naming.is_identifier.Goals as goal

-- of a text that isn't empty, its first byte and the others
by_first : (name : List ℕ) → 1 ≤ length name
    → starts_identifier (get_or name 0 0) && list_all continues_identifier (drop 1 name) ≡ is_ascii_identifier name
by_first [] some = absurd (omega arith)
by_first (first ∷ rest) some = refl

pub returns-in-len1-up : goal.returns-in-len1-up
returns-in-len1-up c =
    let rest : c.all_continue.result ≡ list_all continues_identifier (drop 1 c.args.bytes.now) = rw take_rest at c.all_continue.ensures in
    cc (by_first c.args.bytes.now c.in-len1-up.len_at_least, c.starts_identifier.ensures, rest)
