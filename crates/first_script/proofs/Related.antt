-- Which states of the module's run and of the script's belong together, and that each step keeps it so.
use Rattle.std.proofs.Common.{◌≡◌, ℕ, ◌<◌, List, [], ◌∷◌, ◌++◌, Option, Some, None, refl, sym, ap, subst, arith}
use Rattle.runs.specs.Run.{Goes}
use Rattle.runs.specs.Simulation.{Rank, IsMatched, Simulates}
use Rattle.shared_meaning.specs.Addition.{added}
use Rattle.shared_meaning.specs.Ending.{SameCall}
use Rattle.es_outside.specs.declared.primitive.Primitive.{Primitive}
use Rattle.es_outside.specs.declared.primitive.Primitive.TheVariants as prim
use Rattle.std.specs.Prelude.{codes}
use Rattle.es_outside.specs.declared.events.Seen.{Seen}
use Rattle.es_outside.specs.declared.host.Reply.{Reply}
use Rattle.es_outside.specs.declared.host.Reply.TheVariants as reply
use Rattle.first_trees.specs.declared.Item.{Item}
use Rattle.first_trees.specs.declared.Item.TheVariants as item
use Rattle.first_trees.specs.declared.DeclarationKind.{DeclarationKind}
use Rattle.first_trees.specs.declared.Expression.{Expression}
use Rattle.first_trees.specs.declared.Expression.TheVariants as expression
use Rattle.first_trees.specs.declared.Call.{Call}
use Rattle.first_trees.specs.declared.Sum.{Sum}
use Rattle.first_trees.specs.declared.Term.{Term}
use Rattle.first_trees.specs.declared.Term.TheVariants as term
use Rattle.first_target.specs.declared.Stat5.{Stat5}
use Rattle.first_target.specs.declared.Stat5.TheVariants as stat
use Rattle.first_target.specs.declared.Expr5.{Expr5}
use Rattle.first_target.specs.declared.Expr5.TheVariants as expr
use Rattle.first_target.specs.declared.Call5.{Call5}
use Rattle.first_target.specs.declared.Sum5.{Sum5}
use Rattle.first_target.specs.declared.Term5.{Term5}
use Rattle.first_target.specs.declared.Term5.TheVariants as term5
use Rattle.first_forms.specs.WellFormed.{Scope, with_declared, IsTerm, AreTerms, IsSum, AreSums, IsCall, IsInitializer, CanDeclare, AreItems}
use Rattle.meaning6.specs.State as six
use Rattle.meaning6.specs.Step as step6
use Rattle.first_target.specs.State as five
use Rattle.first_target.specs.Step as step5
use Rattle.first_script.proofs.Lowered.{LowersTerm, low_integer, low_text, low_name, LowersTerms, no_terms, more_terms, LowersSum, LowersSums, no_sums, more_sums, LowersCall, low_call, LowersExpression, low_sum, low_called, LowersItems, no_items, low_declaration, low_statement}
use Rattle.first_script.proofs.Scopes.{HasValue, HasHost, Agrees, agrees_after}

-- a state of the source with one record and one context
abbrev pub source_state : List six.Entry → List six.Frame → six.Control → six.State
source_state entries frames control = record {
  records = record { entries = entries } ∷ [];
  stack = record { environment = 0; frames = frames; control = control } ∷ [];
  pending = [];
}

abbrev pub target_state : List five.Entry5 → List five.Frame5 → five.Control5 → five.State5
target_state entries frames control = record {
  records = record { entries = entries } ∷ [];
  stack = record { environment = 0; frames = frames; control = control } ∷ [];
  pending = [];
}

-- the module is evaluated, the script has run
abbrev pub source_done : List six.Entry → six.State
source_done entries = record { records = record { entries = entries } ∷ []; stack = []; pending = [] }

abbrev pub target_done : List five.Entry5 → five.State5
target_done entries = record { records = record { entries = entries } ∷ []; stack = []; pending = [] }

-- Frames that belong together, in the scope of what is being evaluated.
pub data FramesMatch (suffix : List ℕ) (s : Scope) : List six.Frame → List five.Frame5 → Type 0 where
  no_frames : FramesMatch suffix s [] []
  at_items : {items : List Item} {stats : List Stat5} → AreItems s items → LowersItems suffix items stats → FramesMatch suffix s (six.ItemsRest items ∷ []) (five.StatsRest stats ∷ [])
  at_name : {kind : DeclarationKind} {x : List ℕ} {items : List Item} {stats : List Stat5} → CanDeclare s x → AreItems (with_declared s x) items → LowersItems suffix items stats → FramesMatch suffix s (six.Initialize kind x ∷ six.ItemsRest items ∷ []) (five.AssignVar (x ++ suffix) ∷ five.StatsRest stats ∷ [])
  at_operands : {at at5 : ℕ} {xs : List Term} {ys : List Term5} {fs : List six.Frame} {gs : List five.Frame5} → AreTerms s xs → LowersTerms suffix xs ys → FramesMatch suffix s fs gs → FramesMatch suffix s (six.OperandsRest at xs ∷ fs) (five.OperandsRest at5 ys ∷ gs)
  at_right : {at at5 : ℕ} {left : Primitive} {xs : List Term} {ys : List Term5} {fs : List six.Frame} {gs : List five.Frame5} → AreTerms s xs → LowersTerms suffix xs ys → FramesMatch suffix s fs gs → FramesMatch suffix s (six.OperandRight at left xs ∷ fs) (five.OperandRight at5 left ys ∷ gs)
  at_arguments : {host at at5 : ℕ} {values : List Primitive} {xs : List Sum} {ys : List Sum5} {fs : List six.Frame} {gs : List five.Frame5} → AreSums s xs → LowersSums suffix xs ys → FramesMatch suffix s fs gs → FramesMatch suffix s (six.ArgumentsRest (six.Host host) at values xs ∷ fs) (five.ArgumentsRest (five.Host host) at5 values ys ∷ gs)

-- as many frames on both sides, which is all that a throw needs
pub data Alongside : List six.Frame → List five.Frame5 → Type 0 where
  none_left : Alongside [] []
  one_more : {f : six.Frame} {g : five.Frame5} {fs : List six.Frame} {gs : List five.Frame5} → Alongside fs gs → Alongside (f ∷ fs) (g ∷ gs)

alongside : {suffix : List ℕ} {s : Scope} {fs : List six.Frame} {gs : List five.Frame5} → FramesMatch suffix s fs gs → Alongside fs gs
alongside no_frames = none_left
alongside (at_items i l) = one_more none_left
alongside (at_name c i l) = one_more (one_more none_left)
alongside (at_operands t l m) = one_more (alongside m)
alongside (at_right t l m) = one_more (alongside m)
alongside (at_arguments t l m) = one_more (alongside m)

-- the directive of strict code
abbrev pub directive : ℕ → Stat5
directive at = stat.Expression (expr.Sum (record { at = at; first = term5.Text (codes "use strict"); rest = [] }))

-- States that belong together.
pub data Related (suffix : List ℕ) : six.State → five.State5 → Type 0 where
  declaration_begins : {at5 : ℕ} {s : Scope} {es : List six.Entry} {es5 : List five.Entry5} {kind : DeclarationKind} {x : List ℕ} {e : Expression} {e5 : Expr5} {items : List Item} {stats : List Stat5} → Agrees suffix s es es5 → CanDeclare s x → IsInitializer s e → AreItems (with_declared s x) items → LowersExpression suffix e e5 → LowersItems suffix items stats → Related suffix (source_state es (six.ItemsRest items ∷ []) (six.Begin (six.ItemNode (item.Declaration kind x e)))) (target_state es5 (five.StatsRest stats ∷ []) (five.Begin (five.StatNode (stat.Var at5 (x ++ suffix) e5))))
  statement_begins : {s : Scope} {es : List six.Entry} {es5 : List five.Entry5} {c : Call} {c5 : Call5} {items : List Item} {stats : List Stat5} → Agrees suffix s es es5 → IsCall s c → AreItems s items → LowersCall suffix c c5 → LowersItems suffix items stats → Related suffix (source_state es (six.ItemsRest items ∷ []) (six.Begin (six.ItemNode (item.Expression c)))) (target_state es5 (five.StatsRest stats ∷ []) (five.Begin (five.StatNode (stat.Expression (expr.Call c5)))))
  call_begins : {s : Scope} {es : List six.Entry} {es5 : List five.Entry5} {c : Call} {c5 : Call5} {fs : List six.Frame} {gs : List five.Frame5} → Agrees suffix s es es5 → IsCall s c → LowersCall suffix c c5 → FramesMatch suffix s fs gs → Related suffix (source_state es fs (six.Begin (six.CallNode c))) (target_state es5 gs (five.Begin (five.CallNode c5)))
  sum_begins : {s : Scope} {es : List six.Entry} {es5 : List five.Entry5} {x : Sum} {y : Sum5} {fs : List six.Frame} {gs : List five.Frame5} → Agrees suffix s es es5 → IsSum s x → LowersSum suffix x y → FramesMatch suffix s fs gs → Related suffix (source_state es fs (six.Begin (six.SumNode x))) (target_state es5 gs (five.Begin (five.SumNode y)))
  term_begins : {s : Scope} {es : List six.Entry} {es5 : List five.Entry5} {x : Term} {y : Term5} {fs : List six.Frame} {gs : List five.Frame5} → Agrees suffix s es es5 → IsTerm s x → LowersTerm suffix x y → FramesMatch suffix s fs gs → Related suffix (source_state es fs (six.Begin (six.TermNode x))) (target_state es5 gs (five.Begin (five.TermNode y)))
  value_handed : {s : Scope} {es : List six.Entry} {es5 : List five.Entry5} {v : Primitive} {fs : List six.Frame} {gs : List five.Frame5} → Agrees suffix s es es5 → FramesMatch suffix s fs gs → Related suffix (source_state es fs (six.Hand (six.Value v))) (target_state es5 gs (five.Hand (five.Normal v)))
  nothing_handed : {s : Scope} {es : List six.Entry} {es5 : List five.Entry5} {items : List Item} {stats : List Stat5} → Agrees suffix s es es5 → AreItems s items → LowersItems suffix items stats → Related suffix (source_state es (six.ItemsRest items ∷ []) (six.Hand six.Empty)) (target_state es5 (five.StatsRest stats ∷ []) (five.Hand five.Empty))
  module_ends : {es : List six.Entry} {es5 : List five.Entry5} → Related suffix (source_state es [] (six.Hand six.Empty)) (target_state es5 [] (five.Hand five.Empty))
  throw_handed : {es : List six.Entry} {es5 : List five.Entry5} {error : Seen} {fs : List six.Frame} {gs : List five.Frame5} → Alongside fs gs → Related suffix (source_state es fs (six.Hand (six.Throw error))) (target_state es5 gs (five.Hand (five.Throw error)))
  all_done : {es : List six.Entry} {es5 : List five.Entry5} → Related suffix (source_done es) (target_done es5)
  directive_done : {s : Scope} {es : List six.Entry} {es5 : List five.Entry5} {v : Primitive} {items : List Item} {stats : List Stat5} → Agrees suffix s es es5 → AreItems s items → LowersItems suffix items stats → Related suffix (source_state es (six.ItemsRest items ∷ []) (six.Hand six.Empty)) (target_state es5 (five.StatsRest stats ∷ []) (five.Hand (five.Normal v)))
  import_next : {s : Scope} {es : List six.Entry} {es5 : List five.Entry5} {v : Primitive} {names : List (List ℕ)} {items : List Item} {stats : List Stat5} → Agrees suffix s es es5 → AreItems s items → LowersItems suffix items stats → Related suffix (source_state es (six.ItemsRest (item.Import names ∷ items) ∷ []) (six.Hand six.Empty)) (target_state es5 (five.StatsRest stats ∷ []) (five.Hand (five.Normal v)))
  import_begins : {s : Scope} {es : List six.Entry} {es5 : List five.Entry5} {v : Primitive} {names : List (List ℕ)} {items : List Item} {stats : List Stat5} → Agrees suffix s es es5 → AreItems s items → LowersItems suffix items stats → Related suffix (source_state es (six.ItemsRest items ∷ []) (six.Begin (six.ItemNode (item.Import names)))) (target_state es5 (five.StatsRest stats ∷ []) (five.Hand (five.Normal v)))
  starts : (hosts : List (List ℕ)) (items : List Item) (stats : List Stat5) (at : ℕ) → step5.first_clash (step5.host_entries 0 hosts) stats ≡ None → Related suffix (source_state (step6.module_entries hosts items) (six.ItemsRest items ∷ []) (six.Hand six.Empty)) (target_state (step5.with_vars (step5.host_entries 0 hosts) (step5.var_names stats)) (five.StatsRest stats ∷ []) (five.Hand (five.Normal (prim.Text (codes "use strict"))))) → Related suffix (step6.start6 hosts (record { items = items })) (step5.start5 hosts (record { statements = directive at ∷ stats }))

-- how many steps the source takes alone
abbrev pub alone_at : six.Control → List six.Frame → ℕ
alone_at (six.Begin (six.ItemNode (item.Import names))) frames = 1
alone_at (six.Hand six.Empty) (six.ItemsRest (item.Import names ∷ items) ∷ frames) = 2
alone_at _ _ = 0

abbrev pub alone_on : List six.Context → ℕ
alone_on [] = 0
alone_on (c ∷ below) = alone_at c.control c.frames

abbrev pub alone : six.State → ℕ
alone s = alone_on s.stack

module _ (suffix : List ℕ) where
  abbrev pub rank : Rank (Related suffix)
  rank x t related = alone x

  abbrev Matched : ℕ → step6.Next → five.State5 → Type 0
  Matched r next t = IsMatched step5.step5 (Related suffix) SameCall rank r next t

  -- one step of each
  one_each : (r : ℕ) (s : six.State) (t u : five.State5) → step5.step5 t ≡ Goes u → Related suffix s u → Matched r (Goes s) t
  one_each r s t u e rel = (1, u, (u, e, refl), rel, λ z. absurd (omega arith))

  -- the items that follow, where the target has come as far
  items_next : (s : Scope) (es : List six.Entry) (es5 : List five.Entry5) (r : ℕ) (items : List Item) (stats : List Stat5) (t : five.State5) → Agrees suffix s es es5 → AreItems s items → LowersItems suffix items stats → step5.step5 t ≡ step5.next_stat5 (record { state = target_state es5 (five.StatsRest stats ∷ []) (five.Hand five.Empty); environment = 0; below = [] }) [] stats → Matched r (step6.next_item (record { state = source_state es (six.ItemsRest items ∷ []) (six.Hand six.Empty); environment = 0; below = [] }) [] items) t
  items_next s es es5 r items stats t a i no_items e = one_each r _ t _ e module_ends
  items_next s es es5 r items stats t a i (low_declaration le li) e = one_each r _ t _ e (declaration_begins a i.0 i.1 i.2 le li)
  items_next s es es5 r items stats t a i (low_statement lc li) e = one_each r _ t _ e (statement_begins a i.0 i.1 lc li)

  -- the value of a name is handed to the frames on both sides
  name_next : (s : Scope) (es : List six.Entry) (es5 : List five.Entry5) (r at at5 : ℕ) (name : List ℕ) (fs : List six.Frame) (gs : List five.Frame5) → Agrees suffix s es es5 → FramesMatch suffix s fs gs → HasValue suffix es es5 name → Matched r (step6.step6 (source_state es fs (six.Begin (six.TermNode (term.Name at name))))) (target_state es5 gs (five.Begin (five.TermNode (term5.Name at5 (name ++ suffix)))))
  name_next s es es5 r at at5 name fs gs a m h =
      let source = sym (ap (λ o. step6.goes (record { state = source_state es fs (six.Begin (six.TermNode (term.Name at name))); environment = 0; below = [] }) fs (six.Hand (step6.value_of o))) h.source) in
      let target = ap (λ o. step5.hand_reference5 (record { state = target_state es5 gs (five.Begin (five.TermNode (term5.Name at5 (name ++ suffix)))); environment = 0; below = [] }) gs at5 (step5.reference5 (name ++ suffix) o)) h.target in
      subst (λ n. Matched r n (target_state es5 gs (five.Begin (five.TermNode (term5.Name at5 (name ++ suffix)))))) source
      (one_each r _ _ _ target (value_handed {v = h.value} a m))

  -- the host's answer is handed to the frames on both sides
  answered : (s : Scope) (es : List six.Entry) (es5 : List five.Entry5) (fs : List six.Frame) (gs : List five.Frame5) → Agrees suffix s es es5 → FramesMatch suffix s fs gs → (answer : Reply) → Related suffix (source_state es fs (six.Hand (step6.completion_of answer))) (target_state es5 gs (five.Hand (step5.completion_of5 answer)))
  answered s es es5 fs gs a m (reply.Give v) = value_handed a m
  answered s es es5 fs gs a m (reply.Throw v) = throw_handed (alongside m)

  -- the next argument, or the call
  argument_next : (s : Scope) (es : List six.Entry) (es5 : List five.Entry5) (r host at at5 : ℕ) (values : List Primitive) (xs : List Sum) (ys : List Sum5) (fs : List six.Frame) (gs : List five.Frame5) (t : five.State5) → Agrees suffix s es es5 → AreSums s xs → LowersSums suffix xs ys → FramesMatch suffix s fs gs → step5.step5 t ≡ step5.next_argument5 (record { state = target_state es5 gs (five.Hand five.Empty); environment = 0; below = [] }) gs (five.Host host) at5 values ys → Matched r (step6.next_argument (record { state = source_state es fs (six.Hand six.Empty); environment = 0; below = [] }) fs (six.Host host) at values xs) t
  argument_next s es es5 r host at at5 values xs ys fs gs t a i no_sums m e =
      (0, t, _, _, refl, e, (refl, refl), answered s es es5 fs gs a m)
  argument_next s es es5 r host at at5 values xs ys fs gs t a i (more_sums lx lxs) m e =
      one_each r _ t _ e (sum_begins a i.0 lx (at_arguments i.1 lxs m))

  -- the sum so far, or the exit on both sides
  sum_next : (s : Scope) (es : List six.Entry) (es5 : List five.Entry5) (r at at5 : ℕ) (xs : List Term) (ys : List Term5) (fs : List six.Frame) (gs : List five.Frame5) (o : Option Primitive) (t : five.State5) → Agrees suffix s es es5 → AreTerms s xs → LowersTerms suffix xs ys → FramesMatch suffix s fs gs → step5.step5 t ≡ step5.sum_so_far5 (record { state = target_state es5 gs (five.Hand five.Empty); environment = 0; below = [] }) gs at5 ys o → Matched r (step6.sum_so_far (record { state = source_state es fs (six.Hand six.Empty); environment = 0; below = [] }) fs at xs o) t
  sum_next s es es5 r at at5 xs ys fs gs None t a i l m e = tt
  sum_next s es es5 r at at5 xs ys fs gs (Some v) t a i l m e = one_each r _ t _ e (value_handed a (at_operands i l m))

  -- a value handed to the top frame
  value_next : (s : Scope) (es : List six.Entry) (es5 : List five.Entry5) (r : ℕ) (v : Primitive) (fs : List six.Frame) (gs : List five.Frame5) → Agrees suffix s es es5 → FramesMatch suffix s fs gs → Matched r (step6.step6 (source_state es fs (six.Hand (six.Value v)))) (target_state es5 gs (five.Hand (five.Normal v)))
  value_next s es es5 r v [] [] a no_frames = one_each r _ _ _ refl all_done
  value_next s es es5 r v fs gs a (at_items {items = items} {stats = stats} i l) = items_next s es es5 r items stats _ a i l refl
  value_next s es es5 r v fs gs a (at_name {kind = kind} {x = x} c i l) =
      one_each r _ _ _ refl (nothing_handed (agrees_after suffix s es es5 x v (step6.is_mutable kind) c.not_imported a) i l)
  value_next s es es5 r v fs gs a (at_operands i no_terms m) = one_each r _ _ _ refl (value_handed a m)
  value_next s es es5 r v fs gs a (at_operands i (more_terms lx lxs) m) = one_each r _ _ _ refl (term_begins a i.0 lx (at_right i.1 lxs m))
  value_next s es es5 r v fs gs a (at_right {at = at} {at5 = at5} {left = left} {xs = xs} {ys = ys} {fs = fs'} {gs = gs'} i l m) =
      sum_next s es es5 r at at5 xs ys fs' gs' (added left v) _ a i l m refl
  value_next s es es5 r v fs gs a (at_arguments {host = host} {at = at} {at5 = at5} {values = values} {xs = xs} {ys = ys} {fs = fs'} {gs = gs'} i l m) =
      argument_next s es es5 r host at at5 (values ++ v ∷ []) xs ys fs' gs' _ a i l m refl

  -- a call begins with its host's function
  call_next : (s : Scope) (es : List six.Entry) (es5 : List five.Entry5) (r at at5 : ℕ) (callee : List ℕ) (xs : List Sum) (ys : List Sum5) (fs : List six.Frame) (gs : List five.Frame5) → Agrees suffix s es es5 → AreSums s xs → LowersSums suffix xs ys → FramesMatch suffix s fs gs → HasHost es es5 callee → Matched r (step6.step6 (source_state es fs (six.Begin (six.CallNode (record { at = at; callee = callee; args = xs }))))) (target_state es5 gs (five.Begin (five.CallNode (record { at = at5; callee = callee; args = ys }))))
  call_next s es es5 r at at5 callee xs ys fs gs a i l m h =
      let c : Call = record { at = at; callee = callee; args = xs } in
      let c5 : Call5 = record { at = at5; callee = callee; args = ys } in
      let source = sym (ap (λ o. step6.begin_call (record { state = source_state es fs (six.Begin (six.CallNode c)); environment = 0; below = [] }) fs c o) h.source) in
      let target = ap (λ o. step5.begin_call5 (record { state = target_state es5 gs (five.Begin (five.CallNode c5)); environment = 0; below = [] }) gs c5 (step5.reference5 callee o)) h.target in
      subst (λ n. Matched r n (target_state es5 gs (five.Begin (five.CallNode c5)))) source
      (argument_next s es es5 r h.host at at5 [] xs ys fs gs _ a i l m target)

  -- the source goes on alone to items of which none is an import
  items_alone : (s : Scope) (items : List Item) → AreItems s items → alone_at (six.Hand six.Empty) (six.ItemsRest items ∷ []) < 1
  items_alone s [] i = omega arith
  items_alone s (item.Import names ∷ items) i = absurd i
  items_alone s (item.Declaration kind name e ∷ items) i = omega arith
  items_alone s (item.Expression c ∷ items) i = omega arith

  -- every step from related states is matched
  all_matched : (x : six.State) (t : five.State5) → Related suffix x t → Matched (alone x) (step6.step6 x) t
  all_matched x t (declaration_begins {e = expression.Sum y} a c i is (low_sum l) li) = one_each _ _ _ _ refl (sum_begins a i l (at_name c is li))
  all_matched x t (declaration_begins a c i is (low_called l) li) = one_each _ _ _ _ refl (call_begins a i l (at_name c is li))
  all_matched x t (statement_begins a i is l li) = one_each _ _ _ _ refl (call_begins a i l (at_items is li))
  all_matched x t (call_begins {s = s} {es = es} {es5 = es5} {fs = fs} {gs = gs} a i (low_call {at = at} {at5 = at5} {callee = callee} {xs = xs} {ys = ys} l) m) =
      call_next s es es5 _ at at5 callee xs ys fs gs a i.1 l m (a.hosts callee i.0)
  all_matched x t (sum_begins a i l m) = one_each _ _ _ _ refl (term_begins a i.1 l.first (at_operands i.2 l.rest m))
  all_matched x t (term_begins a i low_integer m) = one_each _ _ _ _ refl (value_handed a m)
  all_matched x t (term_begins a i low_text m) = one_each _ _ _ _ refl (value_handed a m)
  all_matched x t (term_begins {s = s} {es = es} {es5 = es5} {fs = fs} {gs = gs} a i (low_name {at = at} {at5 = at5} {name = name}) m) =
      name_next s es es5 _ at at5 name fs gs a m (a.values name i)
  all_matched x t (value_handed {s = s} {es = es} {es5 = es5} {v = v} {fs = fs} {gs = gs} a m) = value_next s es es5 _ v fs gs a m
  all_matched x t (nothing_handed {s = s} {es = es} {es5 = es5} {items = items} {stats = stats} a i l) = items_next s es es5 _ items stats _ a i l refl
  all_matched x t module_ends = one_each _ _ _ _ refl all_done
  all_matched x t (throw_handed none_left) = (0, t, refl, refl)
  all_matched x t (throw_handed (one_more m)) = one_each _ _ _ _ refl (throw_handed m)
  all_matched x t all_done = (0, t, refl, refl)
  all_matched x t (directive_done {s = s} {es = es} {es5 = es5} {items = items} {stats = stats} a i l) = items_next s es es5 _ items stats _ a i l refl
  all_matched x t (import_next {v = v} {names = names} a i l) = (0, t, refl, import_begins {v = v} {names = names} a i l, λ z. omega arith)
  all_matched x t (import_begins {s = s} {v = v} {items = items} a i l) = (0, t, refl, directive_done {v = v} a i l, λ z. items_alone s items i)
  all_matched x t (starts hosts items stats at free rel) =
      let entered = ap (λ b. step5.enter_script (step5.start5 hosts (record { statements = directive at ∷ stats })) [] (directive at ∷ stats) b) free in
      (6, _, (_, entered, (_, refl, (_, refl, (_, refl, (_, refl, (_, refl, refl)))))), rel, λ z. absurd (omega arith))

  pub simulates : Simulates step6.step6 step5.step5 (Related suffix) SameCall rank
  simulates = record { matched = λ x t related. all_matched x t related }
