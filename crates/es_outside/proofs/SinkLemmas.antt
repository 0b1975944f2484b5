-- What several writes add together.
use Rattle.std.proofs.Common.{ℕ, ◌+◌, List, ◌++◌, take, drop, Option, Some, None, ap, sym, ◌∙◌, append_assoc, subst}
use Rattle.std.proofs.Math.Seq.{take-add}
use Rattle.es_outside.specs.Sinks.{Adds}

-- one piece after another
pub Adds-then : (p q : List ℕ) (a b c : Option (List ℕ)) → Adds p a b → Adds q b c → Adds (p ++ q) a c
Adds-then p q a b None first second = tt
Adds-then p q a None (Some z) first second = absurd second
Adds-then p q None (Some y) (Some z) first second = absurd first
Adds-then p q (Some x) (Some y) (Some z) first second = second ∙ ap (λ (w : List ℕ). w ++ q) first ∙ append_assoc x p q

-- the next bytes of a list after a front of it
pub Adds-further : (bytes : List ℕ) (m n : ℕ) (a b c : Option (List ℕ)) → Adds (take m bytes) a b → Adds (take n (drop m bytes)) b c
    → Adds (take (m + n) bytes) a c
Adds-further bytes m n a b c first second =
    subst (λ (p : List ℕ). Adds p a c) (sym (take-add m n bytes)) (Adds-then _ _ a b c first second)
