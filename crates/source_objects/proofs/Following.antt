-- How the members of a class follow one another.
use Rattle.std.proofs.Common.{◌≡◌, Err, List, None, Ok, Option, Result, Some, ◌∙◌, ◌∷◌, sym}
use Rattle.es_heap.specs.declared.key.Key.{Key as PropertyKey}
use Rattle.es6_ast.specs.declared.tree.ClassMember.{ClassMember, out-ClassMember}
use Rattle.es6_ast.specs.declared.tree.Expression.{Expression}
use Rattle.es6_ast.specs.declared.tree.Key.{out-Key}
use Rattle.es6_ast.specs.declared.tree.Method.{out-Method}
use Rattle.source_keys.proofs.FoundKeys.{with_computed, with_known}
use Rattle.source_keys.specs.Keys.{found_key}
use Rattle.source_keys.specs.declared.keys.FoundKey.{FoundKey}
use Rattle.source_keys.specs.declared.keys.FoundKey.TheVariants.{Computed, Known}
use Rattle.source_meaning.specs.Classes.{member_defined, member_named, members_on}
use Rattle.source_meaning.specs.References.{with_key}
use Rattle.source_meaning.specs.State.{Defining, KeyValue, OfMember, State, Work}
use Rattle.source_meaning.specs.Steps.{Next, begins}
use Rattle.source_moves.specs.Moves.{next_of}
use Rattle.source_moves.specs.declared.moves.Move.{Move}
use Rattle.source_objects.specs.Definitions.{Defines, member_first}
use Rattle.source_state.specs.declared.state.State.{State as StateOf}

-- what names a member
abbrev pub found_name : State → ClassMember → FoundKey
found_name s m = found_key s (out-Key (out-Method (out-ClassMember m).method).key)

module _ {W E : Type 0} (seen : W → Work) (r : Result (Option Move) E) (st : StateOf W) where
  pub member_known : (d : Defining) (m : ClassMember) (ms : List ClassMember) (s : State) (p : PropertyKey) → Known p ≡ found_name s m → Defines seen r st (member_defined d m p s) → Defines seen r st (member_first d m ms s)
  unfolding member_first
  member_known d m ms s p e h = known r h
    where
      on_known : (next : State → Next) → with_key (out-Method (out-ClassMember m).method).key (OfMember d m ms) s (λ k named. member_defined d m k named next) ≡ member_defined d m p s next
      on_known next =
          with_known (out-Method (out-ClassMember m).method).key (OfMember d m ms) s
          (λ k named. member_defined d m k named next) p e

      known : (o : Result (Option Move) E) → Defines seen o st (member_defined d m p s) → Defines seen o st (λ next. with_key (out-Method (out-ClassMember m).method).key (OfMember d m ms) s (λ k named. member_defined d m k named next))
      known (Ok None) h = λ next. on_known next ∙ h next
      known (Ok (Some n)) h = λ next. on_known next ∙ h next
      known (Err x) h = tt

pub member_computed : (d : Defining) (m : ClassMember) (ms : List ClassMember) (s : State) (x : Expression) (next : State → Next) → Computed x ≡ found_name s m → member_first d m ms s next ≡ begins (KeyValue (OfMember d m ms)) x s
unfolding member_first
member_computed d m ms s x next e =
    with_computed (out-Method (out-ClassMember m).method).key (OfMember d m ms) s
    (λ k named. member_defined d m k named next) x e

pub member_ends : (d : Defining) (left : List ClassMember) (m : ClassMember) (ms : List ClassMember) (s : State) (end : Move) (after : State) → left ≡ m ∷ ms → ((next : State → Next) → member_first d m ms s next ≡ next_of end after) → next_of end after ≡ members_on d left s
unfolding member_first
member_ends d left m ms s end after e h = rw e (sym (h (members_on d ms)))

pub member_done : (d : Defining) (left : List ClassMember) (m : ClassMember) (ms : List ClassMember) (s after : State) → left ≡ m ∷ ms → ((next : State → Next) → member_first d m ms s next ≡ next after) → members_on d ms after ≡ members_on d left s
unfolding member_first
member_done d left m ms s after e h = rw e (sym (h (members_on d ms)))

pub named_ends : (d : Defining) (m : ClassMember) (ms : List ClassMember) (k : PropertyKey) (s : State) (end : Move) (after : State) → ((next : State → Next) → member_defined d m k s next ≡ next_of end after) → next_of end after ≡ member_named d m ms k s
named_ends d m ms k s end after h = sym (h (members_on d ms))

pub named_done : (d : Defining) (m : ClassMember) (ms : List ClassMember) (k : PropertyKey) (s after : State) → ((next : State → Next) → member_defined d m k s next ≡ next after) → members_on d ms after ≡ member_named d m ms k s
named_done d m ms k s after h = sym (h (members_on d ms))
