-- A run of the whole reader with insertion is one without insertion over the filled tokens, and each semicolon is put in where
-- nothing goes on.
use Rattle.std.proofs.Common.{◌≡◌, ℕ, zero, suc, Bool, true, false, List, [], ◌∷◌, refl, ap}
use Rattle.es6_ast.specs.declared.module.Module.{Module}
use Rattle.es6_ast.specs.declared.module.Item.{Item}
use Rattle.es6_ast.specs.declared.tree.Statement.{Statement}
use Rattle.es6_ast.specs.declared.settings.Flags.{Flags}
use Rattle.es6_ast.specs.declared.settings.Role.TheVariants.{Among, Heritage, Callee}
use Rattle.es6_ast.specs.declared.settings.Stand.{Stand}
use Rattle.es6_ast.specs.Tokens.{Filled}
use Rattle.es6_reading.specs.Parser.{Input, Outcome, Took, Fault, Parser, returns, ◌>>=◌, refused, next_is, if_next, Reading, Inner}
use Rattle.es6_reading.specs.Expressions.{expression_at_limit, operand_at_limit}
use Rattle.es6_reading.specs.Statements.{statement_at_limit}
use Rattle.es6_reading.specs.Modules.{readers, one_item, is_end, end_at, items, whole_module}
use Rattle.es6_reading.proofs.Posts.{Holds, took, fault, bind, weaken, if-holds, take-holds, refused-holds, no-expression-holds, no-number-holds}
use Rattle.es6_reading.proofs.Follows.{plus, semi, SameHead, nothing, same, near, Never, stop, FollowedBy, same-followed-by}
use Rattle.es6_reading.proofs.FollowChoices.{near-next, if-value, take-firm, then-strict, strict-then-firm}
use Rattle.es6_reading.proofs.FollowEnds.{Follows}
use Rattle.es6_reading.proofs.FollowParts.{follow-binding, follow-initialized, follow-part, follow-object-part, follow-block, follow-member}
use Rattle.es6_reading.proofs.FollowPrimary.{mapped, follow-chain}
use Rattle.es6_reading.proofs.FollowLevels.{follow-unary, follow-power, follow-assignment, follow-sequence, follow-property, assignment-stops}
use Rattle.es6_reading.proofs.FollowModules.{follow-statement, follow-item, statement-stops, block-stops}

-- ## The readers tied into one another

expression-limit : {Q : Reading → Input → Type 0} (test : Filled → Bool) (s : Input) → Holds Q (expression_at_limit test s)
unfolding expression_at_limit
expression-limit test s = if-holds _ _ _ s (λ h. fault) (λ h. no-expression-holds s)

operand-limit : {Q : Reading → Input → Type 0} (s : Input) → Holds Q (operand_at_limit s)
unfolding operand_at_limit
operand-limit s = if-holds _ _ _ s (λ h. fault) (λ h. no-number-holds s)

statement-limit : {Q : Statement → Input → Type 0} (f : Flags) (stand : Stand) (s : Input) → Holds Q (statement_at_limit f stand s)
unfolding statement_at_limit
statement-limit f stand s = if-holds _ _ _ s (λ h. fault) (λ h. if-holds _ _ _ s (λ h. fault) (λ h. no-expression-holds s))

pub readers-inserting : (mode : Bool) (fuel room : ℕ) → (readers mode fuel room).inserting ≡ mode
unfolding readers
readers-inserting mode fuel zero = refl
readers-inserting mode fuel (suc room) = refl

pub readers-fuel : (mode : Bool) (fuel room : ℕ) → (readers mode fuel room).fuel ≡ fuel
unfolding readers
readers-fuel mode fuel zero = refl
readers-fuel mode fuel (suc room) = refl

abbrev at_semi : Bool → ℕ → List Filled → ℕ → Input
at_semi d at us last = record { tokens = semi d at ∷ us; last = last }

readers-assignment-stops : (mode : Bool) (fuel room : ℕ) (f : Flags) (d : Bool) (at : ℕ) (us : List Filled) (last : ℕ) → Never ((readers mode fuel room).assignment f (at_semi d at us last))
unfolding readers
readers-assignment-stops mode fuel zero f d at us last = expression-limit _ (at_semi d at us last)
readers-assignment-stops mode fuel (suc room) f d at us last = assignment-stops (λ l. readers mode fuel room) f zero d at us last

readers-block-stops : (mode : Bool) (fuel room : ℕ) (f : Flags) (d : Bool) (at : ℕ) (us : List Filled) (last : ℕ) → Never ((readers mode fuel room).block f (at_semi d at us last))
unfolding readers
readers-block-stops mode fuel zero f d at us last = fault
readers-block-stops mode fuel (suc room) f d at us last = block-stops (λ l. readers mode fuel room) f zero d at us last

readers-statement-stops : (mode : Bool) (fuel room : ℕ) (f : Flags) (stand : Stand) (d : Bool) (at : ℕ) (us : List Filled) (last : ℕ) → Never ((readers mode fuel room).statement f stand (at_semi d at us last))
unfolding readers
readers-statement-stops mode fuel zero f stand d at us last = statement-limit f stand (at_semi d at us last)
readers-statement-stops mode fuel (suc room) f stand d at us last = statement-stops (λ l. readers mode fuel room) f stand zero d at us last

abbrev pub plain_readers : ℕ → ℕ → ℕ → Inner
plain_readers fuel room l = readers false (plus fuel l) (plus room l)

pub readers-follow : (fuel room : ℕ) → Follows (readers true fuel room) (plain_readers fuel room)
unfolding readers
readers-follow fuel zero = record {
  plain = λ l. readers-inserting false (plus fuel l) l;
  fuel = λ l. readers-fuel false (plus fuel l) l;
  opens = λ h. absurd (cc);
  sequence = λ f s. expression-limit _ s;
  assignment = λ f s. expression-limit _ s;
  power = λ f s. expression-limit _ s;
  unary = λ f s. expression-limit _ s;
  callee = λ f s. operand-limit s;
  heritage = λ f s. operand-limit s;
  block = λ f s. fault;
  property = λ f s. fault;
  target = λ f s. fault;
  part = λ f s. fault;
  object_part = λ f s. fault;
  variable = λ f s. fault;
  member = λ f s. fault;
  statement = λ f stand s. statement-limit f stand s;
  assignment_stops = λ f l d at us last. readers-assignment-stops false (plus fuel l) l f d at us last;
  block_stops = λ f l d at us last. readers-block-stops false (plus fuel l) l f d at us last;
  statement_stops = λ f stand l d at us last. readers-statement-stops false (plus fuel l) l f stand d at us last;
}
readers-follow fuel (suc room) =
    let i : Inner = readers true fuel room in
    let i' : ℕ → Inner = plain_readers fuel room in
    let deeper : Follows i i' = readers-follow fuel room in
    record {
      plain = λ l. refl;
      fuel = λ l. refl;
      opens = λ h l. refl;
      sequence = follow-sequence i i' deeper;
      assignment = follow-assignment i i' deeper;
      power = λ f s. follow-power i i' deeper f Among s;
      unary = follow-unary i i' deeper;
      callee = λ f s. follow-chain i i' deeper f Callee s;
      heritage = λ f s. follow-chain i i' deeper f Heritage s;
      block = follow-block i i' deeper;
      property = follow-property i i' deeper;
      target = follow-binding i i' deeper;
      part = follow-part i i' deeper;
      object_part = follow-object-part i i' deeper;
      variable = λ f s. follow-initialized i i' deeper f f s;
      member = follow-member i i' deeper;
      statement = follow-statement i i' deeper;
      assignment_stops = λ f l d at us last. readers-assignment-stops false (plus fuel l) (suc (plus room l)) f d at us last;
      block_stops = λ f l d at us last. readers-block-stops false (plus fuel l) (suc (plus room l)) f d at us last;
      statement_stops = λ f stand l d at us last. readers-statement-stops false (plus fuel l) (suc (plus room l)) f stand d at us last;
    }

-- ## Modules

same-next : (test : Filled → Bool) (v : Bool) {ts us : List Filled} → SameHead ts us → next_is test ts ≡ v → next_is test us ≡ v
same-next test v nothing e = e
same-next test v same e = e

no-next : (ts : List Filled) → next_is (λ t. true) ts ≡ false → ts ≡ []
no-next [] e = refl
no-next (t ∷ ts) e = absurd (cc)

last-follows : (m : Module) (s : Input) → Holds (FollowedBy SameHead (λ l. if_next (λ t. true) refused (returns m)) s) (if_next (λ t. true) refused (returns m) s)
last-follows m s = if-holds (λ t. true) refused (returns m) s (λ e. refused-holds s)
    (λ e. took (record { filled = []; ends = refl; gaps = stop; run = λ l rest k. if-value (λ t. true) refused (returns m) false rest s.last (same-next (λ t. true) false k e) }))

any-outcome : {A : Type 0} (o : Outcome A) → Holds (λ x c. Unit {0}) o
any-outcome (Took x c) = took tt
any-outcome (Fault reason ts) = fault

-- nothing is left after a module
pub whole-ends : (i : Inner) (s : Input) → Holds (λ m c. c.tokens ≡ []) (whole_module i s)
unfolding whole_module
whole-ends i s = bind (any-outcome (items i i.fuel s)) (λ xs c u. bind (take-holds c) (λ end d h. if-holds (λ t. true) refused (returns _) d (λ e. refused-holds d) (λ e. took (no-next d.tokens e))))

module _ (i : Inner) (i' : ℕ → Inner) (h : Follows i i') where
  abbrev item_and_more : Inner → Parser (List Item) → Item → Parser (List Item)
  item_and_more j more x = ◌>>=◌ more (λ xs. returns (x ∷ xs))

  follow-items : (turns : ℕ) (s : Input) → Holds (FollowedBy SameHead (λ l. items (i' l) (plus turns l)) s) (items i turns s)
  unfolding items
  follow-items zero s = fault
  follow-items (suc turns) s = if-holds is_end (returns []) (◌>>=◌ (one_item i) (item_and_more i (items i turns))) s
      (λ e. took (record { filled = []; ends = refl; gaps = stop; run = λ l rest k. if-value is_end (returns []) _ true rest s.last (same-next is_end true k e) }))
      (λ e. weaken (then-strict _ (λ l. one_item (i' l)) (item_and_more i (items i turns)) (λ l. item_and_more (i' l) (items (i' l) (plus turns l))) s (follow-item i i' h s)
      (λ x c. bind (follow-items turns c) (λ xs d r. took (mapped (λ ys. x ∷ ys) (λ ts us k. near k) r))))
      (λ y d r. same-followed-by SameHead (λ ts us k. near k) _ (λ l. ◌>>=◌ (one_item (i' l)) (item_and_more (i' l) (items (i' l) (plus turns l)))) s d y
      (λ l us n. if-value is_end (returns []) _ false us s.last (near-next is_end false (λ d at. refl) n e)) r))

  pub follow-whole : (s : Input) → Holds (FollowedBy SameHead (λ l. whole_module (i' l)) s) (whole_module i s)
  unfolding whole_module
  follow-whole s = strict-then-firm SameHead _ (λ l. items (i' l) (i' l).fuel) _ _ s
      (weaken (follow-items i.fuel s) (λ y d r. same-followed-by SameHead (λ ts us k. near k) (λ l. items (i' l) (i' l).fuel) (λ l. items (i' l) (plus i.fuel l)) s d y (λ l us n. ap (λ m. items (i' l) m (record { tokens = us; last = s.last })) (h.fuel l)) r))
      (λ xs c. take-firm end_at _ _ c (λ end d. last-follows _ d))
