-- A call in which no other call has its place may have one: an expression has at most one.
use Rattle.std.specs.List.{flat_map, list_all, list_any}
use Rattle.std.proofs.Common.{◌≡◌, ℕ, ◌+◌, ◌≤◌, Bool, true, false, ◌||◌, length, List, [], ◌∷◌, ◌++◌, map, Option, None, Some, refl, sym, ap, arith, ◌∙◌}
use Rattle.std.proofs.lemmas.Bool.{false≢true, le-leb}
use Rattle.es_outside.specs.declared.events.Site.{Site}
use Rattle.core_ast.specs.declared.parts.CoreOp.{CoreOp}
use Rattle.core_ast.specs.declared.parts.CoreHead.TheVariants as head
use Rattle.core_ast.specs.declared.parts.CoreOp.TheVariants as op
use Rattle.core_ast.specs.declared.parts.Key.{Key}
use Rattle.core_ast.specs.declared.parts.Key.TheVariants.{TextKey}
use Rattle.core_ast.specs.declared.parts.Primitive.TheVariants.{CheckReady, Construct, IterStart}
use Rattle.core_ast.specs.declared.parts.Var.{Var}
use Rattle.core_ast.specs.declared.tree.CoreCase.{CoreCase}
use Rattle.core_ast.specs.declared.tree.CoreExpr.{CoreExpr, out-CoreExpr}
use Rattle.core_ast.specs.declared.tree.CoreLink.{CoreLink, out-CoreLink, fold_out-CoreLink}
use Rattle.core_ast.specs.declared.tree.CoreLink.TheOpen as layer
use Rattle.core_ast.specs.declared.tree.CoreLink.TheOpen.{CoreLink-F}
use Rattle.core_ast.specs.declared.tree.CoreLink.TheVariants as link
use Rattle.core_ast.specs.declared.tree.CoreStat.{CoreStat}
use Rattle.core_ast.specs.Lawful as lawful
use Rattle.core_ast.specs.Lawful.{Current, Joint, Named, Plain, Property, Round}
use Rattle.core_ast.specs.Made.{act, acting, expression, linked, variable}
use Rattle.core_ast.specs.Names.{next}
use Rattle.lawful_passes.proofs.Far.{SoFar, act_far, acting_far, done_is, joint, joints, more_sites, number_is, sites, sites_by, strict_far, variable_far, variable_is}
use Rattle.lawful_passes.proofs.Spilling.{Sound}
use Rattle.lawful_passes.proofs.Stepping.{sound_whole}
use Rattle.lowering_laws.specs.InRound as lawfully
use Rattle.lowering_laws.specs.InRound.{PartsAreLawful, expr_lawful, part_lawful}
use Rattle.lowering_laws.specs.References.{MakesLawful, name_lawful, reached_lawful, with_names}
use Rattle.lowering_laws.proofs.Expressions.{lists_are_lawful, plainly}
use Rattle.lowering_laws.proofs.References.{new_drawn, one_more, raise, size}
use Rattle.lowering_rules.specs.Expressions as e
use Rattle.lowering_rules.specs.Making.{number, stored}
use Rattle.lowering_rules.specs.Naming as naming
use Rattle.lowering_rules.specs.Naming.{with_temporary}
use Rattle.lowering_rules.specs.Patterns as p
use Rattle.lowering_rules.specs.declared.expressions.ListPart.{ListPart}
use Rattle.lowering_rules.specs.declared.expressions.ListPart.TheVariants.{Missing, Single, Spread}
use Rattle.lowering_rules.specs.declared.naming.Names.{Names}
use Rattle.lowering_rules.specs.declared.reference_rules.references.Callee.{Callee}
use Rattle.lowering_rules.specs.declared.reference_rules.references.MemberName.{MemberName}
use Rattle.lowering_rules.specs.declared.reference_rules.references.MemberName.TheVariants.{AtIterator, Indexed, Named as ByName}
use Rattle.lowering_rules.specs.declared.reference_rules.references.Reached.{Reached}
use Rattle.lowering_rules.specs.declared.reference_rules.references.Reached.TheVariants.{Inherited, Property as OfProperty, Value, Variable}
use Rattle.lowering_rules.specs.reference_rules.References as s
use Rattle.module_lowering.specs.Expressions as m
use Rattle.module_lowering.specs.Expressions.{has_site, is_sited, reached_sited, site_in}
use Rattle.pass_rules.proofs.pass_laws.Related.{in_link, of_expr}
use Rattle.pass_rules.proofs.pass_laws.Starts.{laws}
use Rattle.pass_rules.proofs.pass_laws.Within.{left, right, both, either}

-- ## Expressions in which no link has a place

pub or_left : (a b : Bool) → (a || b) ≡ false → a ≡ false
or_left false b h = refl
or_left true b h = h

pub or_right : (a b : Bool) → (a || b) ≡ false → b ≡ false
or_right false b h = h
or_right true b h = absurd (false≢true (sym h))

site_of : (y : CoreLink-F CoreLink CoreStat CoreCase CoreExpr) → site_in y ≡ false → (lawful.link_step (in_link laws y)).site ≡ None
site_of (layer.Strict o parts None) h = refl
site_of (layer.Strict o parts (Some site)) h = absurd (false≢true (sym h))
site_of (layer.Lazy w taken other) h = refl
site_of (layer.Run body) h = refl

joint_site : (l : CoreLink) → has_site l ≡ false → (joint l).site ≡ None
joint_site l h = ap (λ (j : Joint). j.site) (fold_out-CoreLink laws.Link laws.Stat laws.Case laws.Expr laws.link_step laws.stat_step laws.case_step laws.expr_step l) ∙ site_of (out-CoreLink l) h

no_sites : (ls : List CoreLink) → list_any has_site ls ≡ false → sites (joints ls) ≡ 0
no_sites [] h = refl
no_sites (l ∷ ls) h =
    let a = sites_by (joint l) None (joints ls) (joint_site l (or_left (has_site l) (list_any has_site ls) h)) in let d : sites (joints ls) ≡ 0 = no_sites ls (or_right (has_site l) (list_any has_site ls) h) in omega arith

any_more : (ls : List CoreLink) (l : CoreLink) → list_any has_site ls ≡ false → has_site l ≡ false → list_any has_site (ls ++ l ∷ []) ≡ false
any_more [] l h k = ap (λ b. b || false) k
any_more (x ∷ ls) l h k = ap (λ b. b || list_any has_site (ls ++ l ∷ [])) (or_left _ _ h) ∙ any_more ls l (or_right _ _ h) k

no_site : (o : CoreOp) (parts : List CoreExpr) → has_site (link.Strict o parts None) ≡ false
no_site o parts = ap site_in (link.outs-Strict o parts None)

linked_unsited : (x : CoreExpr) (o : CoreOp) (parts : List CoreExpr) → is_sited x ≡ false → is_sited (linked x (link.Strict o parts None)) ≡ false
linked_unsited x o parts h = any_more (out-CoreExpr x).links (link.Strict o parts None) h (no_site o parts)

read_unsited : (object : CoreExpr) (name : MemberName) → is_sited object ≡ false → is_sited (s.member_read object name) ≡ false
unfolding s.member_read
read_unsited object (ByName key) h = linked_unsited object (op.Member key) [] h
read_unsited object (Indexed key) h = linked_unsited object op.Index (key ∷ []) h
read_unsited object AtIterator h = linked_unsited object (op.Primitive IterStart) (number 1 ∷ []) h

value_unsited : (x : Reached) → reached_sited x ≡ false → is_sited (s.value_of x) ≡ false
unfolding s.value_of reached_sited
value_unsited (Value x) h = h
value_unsited (Variable t imported) h = either (λ ls. list_any has_site ls ≡ false) t.checked {x = act (op.Primitive CheckReady) ∷ []} {y = []} (ap (λ b. b || false) (no_site (op.Primitive CheckReady) [])) refl
value_unsited (OfProperty object name) h = read_unsited object name h
value_unsited (Inherited x this) h = h

-- what is accessed behind it has none either
pub access_unsited : (x : Reached) (name : MemberName) → reached_sited x ≡ false → reached_sited (s.accessed x name) ≡ false
unfolding reached_sited
access_unsited x name h = value_unsited x h

-- a lawful one, of which more may be made, and in which no link has a place
pub record Open (r : Round) (x : CoreExpr) : Type 0 where
  pub at : Current
  pub plain : lawful.is_hosted at ≡ false
  pub far : SoFar r at 0 x

unsited : (r : Round) (x : CoreExpr) → is_sited x ≡ false → Sound r x → Open r x
unsited r x e h =
    let w = sound_whole r x h in let f = w.far in
    record {
      at = w.at;
      plain = w.plain;
      far = record { site = f.site; head = f.head; links = f.links; ends = f.ends; sites = let a = no_sites (out-CoreExpr x).links e in omega arith };
    }

open_sound : (r : Round) (x : CoreExpr) → Open r x → Sound r x
open_sound r x h = done_is r h.at x (more_sites r h.at 0 1 x (omega arith) h.far) h.plain

acted : (r : Round) (o : CoreOp) (x : CoreExpr) → ((at : Current) → lawful.is_hosted at ≡ false → lawful.may_stand_behind at o ≡ true) → lawful.is_hosted (lawful.gives o) ≡ false → lawful.takes o 0 ≡ true → lawful.op_lawful o r ≡ true → Open r x → Open r (linked x (act o))
acted r o x b g t m h = record { at = lawful.gives o; plain = g; far = act_far r h.at 0 o x (b h.at h.plain) t m h.far }

behind : (r : Round) (o : CoreOp) (y x : CoreExpr) → ((at : Current) → lawful.is_hosted at ≡ false → lawful.may_stand_behind at o ≡ true) → lawful.is_hosted (lawful.gives o) ≡ false → lawful.takes o 1 ≡ true → lawful.op_lawful o r ≡ true → Sound r y → Open r x → Open r (linked x (acting o y))
behind r o y x b g t m k h = record { at = lawful.gives o; plain = g; far = acting_far r h.at 0 o y x (b h.at h.plain) t m k h.far }

-- ## What is called

read_open : (r : Round) (x : Var) (checked : Bool) → lawful.is_drawn r x ≡ true → Open r (s.variable_read x checked)
read_open r x checked d =
    let plain : Open r (variable x) = record { at = Named; plain = refl; far = variable_far r x d } in
    either (λ ls. Open r (expression None (head.Variable x) ls)) checked {x = act (op.Primitive CheckReady) ∷ []} {y = []} (acted r (op.Primitive CheckReady) (variable x) plainly refl refl refl plain) plain

named_open : (r : Round) (object : CoreExpr) (key : Key) → lawful.key_lawful key ≡ true → Open r object → Open r (p.at_name object key)
named_open r object key k h = acted r (op.Member key) object plainly refl refl k h

member_open : (r : Round) (object : CoreExpr) (name : MemberName) → name_lawful r name ≡ true → Open r object → Open r (s.member object name)
unfolding s.member
member_open r object (ByName key) k h = named_open r object key k h
member_open r object (Indexed key) k h = behind r op.Index key object plainly refl refl refl k h
member_open r object AtIterator k h = named_open r object (TextKey p.iterator_name) refl h

member_read_open : (r : Round) (object : CoreExpr) (name : MemberName) → name_lawful r name ≡ true → Open r object → Open r (s.member_read object name)
unfolding s.member_read
member_read_open r object (ByName key) k h = named_open r object key k h
member_read_open r object (Indexed key) k h = behind r op.Index key object plainly refl refl refl k h
member_read_open r object AtIterator k h = behind r (op.Primitive IterStart) (number 1) object plainly refl refl refl (number_is r 1 refl) h

pub value_open : (x : Reached) → reached_sited x ≡ false → (r : Round) → reached_lawful r x ≡ true → Open r (s.value_of x)
unfolding s.value_of reached_sited
value_open (Value x) e r h = unsited r x e h
value_open (Variable t imported) e r h = read_open r t.var t.checked h
value_open (OfProperty object name) e r h = member_read_open r object name (right _ _ h) (unsited r object e (left _ _ h))
value_open (Inherited x this) e r h = unsited r x e (left _ _ h)

raise_name : (r : Round) (n q : Names) (x : MemberName) → size n ≤ size q → name_lawful (with_names n r) x ≡ true → name_lawful (with_names q r) x ≡ true
raise_name r n q (ByName key) l h = h
raise_name r n q (Indexed key) l h = raise r n q key l h
raise_name r n q AtIterator l h = refl

same : (n : ℕ) → n ≤ n
same n = omega arith

record CalleeIs (r : Round) (n : Names) (c : Callee) (q : Names) : Type 0 where
  more : size n ≤ size q
  function : Open (with_names q r) c.function
  receiver : lawfully.if_lawful c.receiver (with_names q r) ≡ true

callee_is : (r : Round) (listed : Bool) (x : Reached) (n : Names) → reached_sited x ≡ false → reached_lawful (with_names n r) x ≡ true → CalleeIs r n (s.callee listed x n).value (s.callee listed x n).names
unfolding s.callee reached_sited
callee_is r listed (Value x) n e h = record { more = omega arith; function = unsited (with_names n r) x e h; receiver = refl }
callee_is r listed (Variable t imported) n e h = record { more = omega arith; function = read_open (with_names n r) t.var t.checked h; receiver = refl }
callee_is r listed (Inherited x this) n e h = record { more = omega arith; function = unsited (with_names n r) x e (left _ _ h); receiver = right _ _ h }
callee_is r listed (OfProperty object name) n e h =
    let q = with_temporary n in let l = one_more n in let after = with_names q r in let d = new_drawn r n q (omega arith) in let v = next n.fresh in
    let here = with_names n r in
    let kept : CalleeIs r n (s.callee_kept object name n).value (s.callee_kept object name n).names = record {
      more = omega arith;
      function = member_read_open after (stored v object) name (raise_name r n q name (omega arith) (right _ _ h)) (acted after (op.Set v) object plainly refl refl d (unsited after object e (raise r n q object (omega arith) (left _ _ h))));
      receiver = variable_is after v d;
    } in
    either (λ (z : naming.Drawn Callee). CalleeIs r n z.value z.names) (listed || s.is_iterator name) kept
    (record { more = same (size n); function = member_open here object name (right _ _ h) (unsited here object e (left _ _ h)); receiver = refl })

-- ## Calls with a place

placed : (r : Round) (o : CoreOp) (parts : List CoreExpr) (site : Site) (x : CoreExpr) → ((at : Current) → lawful.is_hosted at ≡ false → lawful.may_stand_behind at o ≡ true) → lawful.is_hosted (lawful.gives o) ≡ false → lawful.takes o (length (map (of_expr laws) parts)) ≡ true → lawful.op_lawful o r ≡ true
    → lawful.all_lawful (map (of_expr laws) parts) r ≡ true → Open r x → Sound r (linked x (link.Strict o parts (Some site)))
placed r o parts site x b g t m q h = done_is r (lawful.gives o) _ (more_sites r (lawful.gives o) (0 + 1) 1 _ (omega arith) (strict_far r h.at 0 o parts (Some site) x (b h.at h.plain) t m q h.far)) g

all_of : (r : Round) (xs : List CoreExpr) → list_all (λ x. expr_lawful x r) xs ≡ true → lawful.all_lawful (map (of_expr laws) xs) r ≡ true
all_of r [] h = refl
all_of r (x ∷ xs) h = both (left _ _ h) (all_of r xs (right _ _ h))

always : (at : Current) → lawful.is_hosted at ≡ false → true ≡ true
always at h = refl

at_least_one : (x : CoreExpr) (xs : List CoreExpr) → lawful.takes op.CallWith (length (map (of_expr laws) (x ∷ xs))) ≡ true
at_least_one x xs = le-leb 1 (length (map (of_expr laws) (x ∷ xs))) (omega arith)

call_placed : (r : Round) (callee : CoreExpr) (receiver : Option CoreExpr) (parts : List CoreExpr) (site : Site) → Open r callee → lawfully.if_lawful receiver r ≡ true → PartsAreLawful r parts → Sound r (e.call callee receiver parts (Some site))
unfolding e.call
call_placed r callee None parts site h k q = placed r op.Call parts site callee always refl refl refl (all_of r parts q) h
call_placed r callee (Some receiver) parts site h k q = placed r op.CallWith (receiver ∷ parts) site callee plainly refl (at_least_one receiver parts) refl (both k (all_of r parts q)) h

spread_placed : (r : Round) (callee : CoreExpr) (receiver : Option CoreExpr) (parts : List ListPart) (site : Site) → Open r callee → lawfully.if_lawful receiver r ≡ true → list_all (part_lawful r) parts ≡ true → Sound r (e.spread_call callee receiver parts (Some site))
unfolding e.spread_call
spread_placed r callee None parts site h k q = placed r op.CallList (e.arguments parts ∷ []) site callee always refl refl refl (both (lists_are_lawful r parts q).1 refl) h
spread_placed r callee (Some receiver) parts site h k q = placed r op.CallListWith (receiver ∷ e.arguments parts ∷ []) site callee plainly refl refl refl (both k (both (lists_are_lawful r parts q).1 refl)) h

raise_part : (r : Round) (n q : Names) (x : ListPart) → size n ≤ size q → part_lawful (with_names n r) x ≡ true → part_lawful (with_names q r) x ≡ true
raise_part r n q (Single x) l h = raise r n q x l h
raise_part r n q (Spread x) l h = raise r n q x l h
raise_part r n q Missing l h = refl

raise_list : (r : Round) (n q : Names) (xs : List ListPart) → size n ≤ size q → list_all (part_lawful (with_names n r)) xs ≡ true → list_all (part_lawful (with_names q r)) xs ≡ true
raise_list r n q [] l h = refl
raise_list r n q (x ∷ xs) l h = both (raise_part r n q x l (left _ _ h)) (raise_list r n q xs l (right _ _ h))

raise_parts : (r : Round) (n q : Names) (xs : List CoreExpr) → size n ≤ size q → PartsAreLawful (with_names n r) xs → PartsAreLawful (with_names q r) xs
raise_parts r n q [] l h = refl
raise_parts r n q (x ∷ xs) l h = both (raise r n q x l (left _ _ h)) (raise_parts r n q xs l (right _ _ h))

singles_are : (r : Round) (xs : List ListPart) → list_all (part_lawful r) xs ≡ true → PartsAreLawful r (flat_map s.single xs)
unfolding s.single
singles_are r [] h = refl
singles_are r (Single x ∷ xs) h = both (left _ _ h) (singles_are r xs (right _ _ h))
singles_are r (Spread x ∷ xs) h = singles_are r xs (right _ _ h)
singles_are r (Missing ∷ xs) h = singles_are r xs h

pub called_is : (r : Round) (x : Reached) (parts : List ListPart) (site : Site) (n : Names) → reached_sited x ≡ false → reached_lawful (with_names n r) x ≡ true → list_all (part_lawful (with_names n r)) parts ≡ true → MakesLawful r (s.called x parts (Some site) n)
called_is r x parts site n u h k =
    let c = s.callee true x n in let a = callee_is r true x n u h in let d = s.callee false x n in let b = callee_is r false x n u h in
    either (MakesLawful r) (list_any s.is_spread parts)
    (spread_placed (with_names c.names r) c.value.function c.value.receiver parts site a.function a.receiver (raise_list r n c.names parts a.more k))
    (call_placed (with_names d.names r) d.value.function d.value.receiver (flat_map s.single parts) site b.function b.receiver (singles_are (with_names d.names r) parts (raise_list r n d.names parts b.more k)))

pub tag_is : (r : Round) (x : Reached) (object : CoreExpr) (values : List CoreExpr) (site : Site) (n : Names) → reached_sited x ≡ false → reached_lawful (with_names n r) x ≡ true → Sound (with_names n r) object → PartsAreLawful (with_names n r) values → MakesLawful r (s.called_as_tag x object values (Some site) n)
tag_is r x object values site n u h k q =
    let d = s.callee false x n in let b = callee_is r false x n u h in
    call_placed (with_names d.names r) d.value.function d.value.receiver (object ∷ values) site b.function b.receiver (both (raise r n d.names object b.more k) (raise_parts r n d.names values b.more q))

-- `new`, of a value that has no place
pub new_is : (r : Round) (x : CoreExpr) (parts : List ListPart) (site : Site) → is_sited x ≡ false → Sound r x → list_all (part_lawful r) parts ≡ true → Sound r (m.constructed x parts (Some site))
new_is r x parts site u h k = placed r (op.Primitive Construct) (e.arguments parts ∷ []) site x plainly refl refl refl (both (lists_are_lawful r parts k).1 refl) (unsited r x u h)
