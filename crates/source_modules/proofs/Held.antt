-- What is read of a name of a namespace object, and the number of the next module.
use Rattle.std.proofs.Common.{◌≡◌, ◌+◌, ℕ, None, Some, Option, Result, ap, arith, subst, suc, sym, false}
use Rattle.std.specs.Option.{option_map}
use Rattle.source_meaning.specs.Environments.{read_held}
use Rattle.source_meaning.specs.Modules.{read_export}
use Rattle.source_meaning.specs.State.{Exported, Held, State, Work}
use Rattle.source_moves.specs.Moves.{Steps}
use Rattle.source_moves.specs.declared.moves.Move.{Move}
use Rattle.source_state.specs.declared.state.State.{State as StateOf}
use Rattle.source_modules.specs.Found.{binding_held}

read_some : (st : State) (h : Held) (o : Option Exported) → Some h ≡ option_map (binding_held st) o → read_export false st o ≡ read_held h st
read_some st h None e = cc
read_some st h (Some x) e =
    let is : h ≡ binding_held st x = cc in
    ap (λ k. read_held k st) (sym is)

pub reads_some : {W E : Type 0} (seen : W → Work) (r : Result Move E) (after : StateOf W) (st : State) (h : Held) (o : Option Exported) → Some h ≡ option_map (binding_held st) o → Steps seen r after (read_held h st) → Steps seen r after (read_export false st o)
reads_some seen r after st h o e steps = subst (λ n. Steps seen r after n) (sym (read_some st h o e)) steps

pub next_number : (n : ℕ) → n + 1 ≡ suc n
next_number n = omega arith
