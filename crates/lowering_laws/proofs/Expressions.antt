-- Expressions of lawful parts are lawful.
use Rattle.std.specs.List.{filter_map, flat_map, list_all}
use Rattle.std.proofs.Common.{◌≡◌, ℕ, ◌+◌, true, false, not, nat_le, nat_lt, length, List, [], ◌∷◌, ◌++◌, map, Option, None, Some, refl, sym, ap, arith, subst, ◌∙◌}
use Rattle.std.proofs.lemmas.Bool.{le-leb}
use Rattle.es_outside.specs.declared.events.Site.{Site}
use Rattle.core_ast.specs.declared.parts.Binary.TheVariants.{Add}
use Rattle.core_ast.specs.declared.parts.Constant.TheVariants.{Text}
use Rattle.core_ast.specs.declared.parts.CoreHead.{CoreHead}
use Rattle.core_ast.specs.declared.parts.CoreHead.TheVariants as head
use Rattle.core_ast.specs.declared.parts.CoreOp.{CoreOp}
use Rattle.core_ast.specs.declared.parts.CoreOp.TheVariants as op
use Rattle.core_ast.specs.declared.parts.Primitive.TheVariants.{Construct, SpreadList, TemplateObject, ToText}
use Rattle.core_ast.specs.declared.tree.CoreExpr.{CoreExpr}
use Rattle.core_ast.specs.declared.tree.CoreLink.{CoreLink}
use Rattle.core_ast.specs.declared.tree.CoreLink.TheVariants as link
use Rattle.core_ast.specs.Lawful as lawful
use Rattle.core_ast.specs.Lawful.{Hosted, Joint, Plain, Round}
use Rattle.core_ast.specs.Made.{act, acting, expression, linked}
use Rattle.lawful_passes.proofs.Far.{act_far, begun_far, constant_is, done_is, joint, joints, more_sites, number_is, strict_far, strict_joint}
use Rattle.lawful_passes.proofs.Spilling.{Sound}
use Rattle.lawful_passes.proofs.Stepping.{sound_whole}
use Rattle.lowering_laws.specs.Expressions.{CallsAreLawful, ConstructionsAreLawful, HostCallsAreLawful, ListsAreLawful, SpreadCallsAreLawful, SpreadHostCallsAreLawful, TagsAreLawful, TemplateObjectsAreLawful, TemplatesAreLawful, host}
use Rattle.lowering_laws.specs.InRound.{expr_lawful, part_lawful}
use Rattle.lowering_rules.specs.declared.expressions.ListPart.{ListPart}
use Rattle.lowering_rules.specs.declared.expressions.ListPart.TheVariants.{Missing, Single, Spread}
use Rattle.lowering_rules.specs.declared.expressions.TemplatePart.{TemplatePart}
use Rattle.lowering_rules.specs.Expressions as e
use Rattle.lowering_rules.specs.Making.{number, text, to_text}
use Rattle.pass_rules.proofs.pass_laws.Related.{of_expr, expr_rolled}
use Rattle.pass_rules.proofs.pass_laws.Starts.{laws}
use Rattle.pass_rules.proofs.pass_laws.Within.{left, right, both}

-- ## Operations behind any value

pub acted : (r : Round) (o : CoreOp) (x : CoreExpr) → ((at : lawful.Current) → lawful.is_hosted at ≡ false → lawful.may_stand_behind at o ≡ true) → lawful.is_hosted (lawful.gives o) ≡ false → lawful.takes o 0 ≡ true → lawful.op_lawful o r ≡ true → Sound r x → Sound r (linked x (act o))
acted r o x b g t m h = let w = sound_whole r x h in done_is r (lawful.gives o) _ (act_far r w.at 1 o x (b w.at w.plain) t m w.far) g

pub behind : (r : Round) (o : CoreOp) (parts : List CoreExpr) (x : CoreExpr) → ((at : lawful.Current) → lawful.is_hosted at ≡ false → lawful.may_stand_behind at o ≡ true) → lawful.is_hosted (lawful.gives o) ≡ false → lawful.takes o (length (map (of_expr laws) parts)) ≡ true → lawful.op_lawful o r ≡ true
    → lawful.all_lawful (map (of_expr laws) parts) r ≡ true → Sound r x → Sound r (linked x (link.Strict o parts None))
behind r o parts x b g t m q h =
    let w = sound_whole r x h in
    done_is r (lawful.gives o) _ (more_sites r (lawful.gives o) (1 + 0) 1 _ (omega arith) (strict_far r w.at 1 o parts None x (b w.at w.plain) t m q w.far)) g

pub plainly : (at : lawful.Current) → lawful.is_hosted at ≡ false → not (lawful.is_hosted at) ≡ true
plainly at h = ap not h

-- ## Lists of links that leave a plain value

pub record PlainLink (r : Round) (l : CoreLink) : Type 0 where
  pub ends : lawful.behind Plain (joint l).ends ≡ true
  pub after : lawful.after (joint l).ends ≡ Plain
  pub site : (joint l).site ≡ None
  pub lawful : (joint l).lawful r ≡ true

abbrev pub AllPlain : Round → List CoreLink → Type 0
AllPlain r [] = Unit {0}
AllPlain r (l ∷ ls) = PlainLink r l × AllPlain r ls

pub all_more : (r : Round) (ls ks : List CoreLink) → AllPlain r ls → AllPlain r ks → AllPlain r (ls ++ ks)
all_more r [] ks h k = k
all_more r (l ∷ ls) ks h k = (h.0, all_more r ls ks h.1 k)

pub plain_strict : (r : Round) (o : CoreOp) (parts : List CoreExpr) → lawful.may_stand_behind Plain o ≡ true → lawful.gives o ≡ Plain → lawful.takes o (length (map (of_expr laws) parts)) ≡ true → lawful.op_lawful o r ≡ true → lawful.all_lawful (map (of_expr laws) parts) r ≡ true → PlainLink r (link.Strict o parts None)
plain_strict r o parts b g t m q =
    let j = strict_joint o parts None in
    record {
      ends = ap (λ i. lawful.behind Plain i.ends) j ∙ b;
      after = ap (λ i. lawful.after i.ends) j ∙ g;
      site = ap (λ i. i.site) j;
      lawful = ap (λ i. i.lawful r) j ∙ both (both t m) q;
    }

plain_links : (r : Round) (ls : List CoreLink) → AllPlain r ls → lawful.links_lawful Plain (joints ls) r ≡ true
plain_links r [] h = refl
plain_links r (l ∷ ls) h = both (both h.0.ends h.0.lawful) (subst (λ c. lawful.links_lawful c (joints ls) r ≡ true) (sym h.0.after) (plain_links r ls h.1))

no_sites : (r : Round) (ls : List CoreLink) → AllPlain r ls → filter_map (λ l. l.site) (joints ls) ≡ []
no_sites r [] h = refl
no_sites r (l ∷ ls) h = without (joint l).site h.0.site (no_sites r ls h.1)
  where
    without : (site : Option Site) → site ≡ None → filter_map (λ i. i.site) (joints ls) ≡ [] → filter_map (λ i. i.site) (record (joint l) { site = site } ∷ joints ls) ≡ []
    without site e k = subst (λ q. filter_map (λ i. i.site) (record (joint l) { site = q } ∷ joints ls) ≡ []) (sym e) k

pub list_is : (r : Round) (h : CoreHead) (ls : List CoreLink) → lawful.begins h ≡ Plain → lawful.head_lawful h r ≡ true → AllPlain r ls → Sound r (expression None h ls)
list_is r h ls b k p =
    ap (λ t. t r) (expr_rolled laws (record { site = None; head = h; links = ls }))
    ∙ both (both (both refl k) (subst (λ c. lawful.links_lawful c (joints ls) r ≡ true) (sym b) (plain_links r ls p))) (ap (λ xs. nat_le (length xs) 1) (no_sites r ls p))

-- ## Templates and lists

pub text_is : (r : Round) (units : List ℕ) → Sound r (text units)
text_is r units = constant_is r (Text units) refl

element_plain : (r : Round) (x : CoreExpr) → Sound r x → PlainLink r (acting op.Element x)
element_plain r x h = plain_strict r op.Element (x ∷ []) refl refl refl refl (both h refl)

added_plain : (r : Round) (x : CoreExpr) → Sound r x → PlainLink r (acting (op.Operator Add) x)
added_plain r x h = plain_strict r (op.Operator Add) (x ∷ []) refl refl refl refl (both h refl)

template_plain : (r : Round) (parts : List TemplatePart) → list_all (λ p. expr_lawful p.value r) parts ≡ true → AllPlain r (flat_map e.template_links parts)
template_plain r [] h = tt
template_plain r (p ∷ parts) h = all_more r (e.template_links p) (flat_map e.template_links parts)
    (added_plain r (to_text p.value) (acted r (op.Primitive ToText) p.value plainly refl refl refl (left _ _ h)), (added_plain r (text p.text) (text_is r p.text), tt)) (template_plain r parts (right _ _ h))

pub templates_are_lawful : TemplatesAreLawful
templates_are_lawful r first parts h = list_is r (head.Constant (Text first)) (flat_map e.template_links parts) refl refl (template_plain r parts h)

list_plain : (r : Round) (parts : List ListPart) → list_all (part_lawful r) parts ≡ true → AllPlain r (map e.list_link parts)
unfolding e.list_link
list_plain r [] h = tt
list_plain r (Single x ∷ parts) h = (element_plain r x (left _ _ h), list_plain r parts (right _ _ h))
list_plain r (Spread x ∷ parts) h = (plain_strict r (op.Primitive SpreadList) (x ∷ number 1 ∷ []) refl refl refl refl (both (left _ _ h) (both (number_is r 1 refl) refl)), list_plain r parts (right _ _ h))
list_plain r (Missing ∷ parts) h = (plain_strict r op.Hole [] refl refl refl refl refl, list_plain r parts h)

pub lists_are_lawful : ListsAreLawful
lists_are_lawful r parts h = (list_is r head.ArrayList _ refl refl (list_plain r parts h), list_is r head.ArgumentList _ refl refl (list_plain r parts h))

arguments_is : (r : Round) (parts : List ListPart) → list_all (part_lawful r) parts ≡ true → Sound r (e.arguments parts)
arguments_is r parts h = (lists_are_lawful r parts h).1

-- ## Calls

all_of : (r : Round) (xs : List CoreExpr) → list_all (λ x. expr_lawful x r) xs ≡ true → lawful.all_lawful (map (of_expr laws) xs) r ≡ true
all_of r [] h = refl
all_of r (x ∷ xs) h = both (left _ _ h) (all_of r xs (right _ _ h))

always : (at : lawful.Current) → lawful.is_hosted at ≡ false → true ≡ true
always at h = refl

at_least_one : (r : Round) (xs : List CoreExpr) (x : CoreExpr) → lawful.takes op.CallWith (length (map (of_expr laws) (x ∷ xs))) ≡ true
at_least_one r xs x = le-leb 1 (length (map (of_expr laws) (x ∷ xs))) (omega arith)

pub calls_are_lawful : CallsAreLawful
unfolding e.call
calls_are_lawful r callee None parts h k m = behind r op.Call parts callee always refl refl refl (all_of r parts m) h
calls_are_lawful r callee (Some receiver) parts h k m = behind r op.CallWith (receiver ∷ parts) callee plainly refl (at_least_one r parts receiver) refl (both k (all_of r parts m)) h

pub spread_calls_are_lawful : SpreadCallsAreLawful
unfolding e.spread_call
spread_calls_are_lawful r callee None parts h k m = behind r op.CallList (e.arguments parts ∷ []) callee always refl refl refl (both (arguments_is r parts m) refl) h
spread_calls_are_lawful r callee (Some receiver) parts h k m = behind r op.CallListWith (receiver ∷ e.arguments parts ∷ []) callee plainly refl refl refl (both k (both (arguments_is r parts m) refl)) h

host_called : (r : Round) (h : ℕ) (o : CoreOp) (parts : List CoreExpr) (site : Option Site) → nat_lt h r.hosts ≡ true → lawful.may_stand_behind Hosted o ≡ true → lawful.is_hosted (lawful.gives o) ≡ false → lawful.takes o (length (map (of_expr laws) parts)) ≡ true → lawful.op_lawful o r ≡ true
    → lawful.all_lawful (map (of_expr laws) parts) r ≡ true → Sound r (linked (host h) (link.Strict o parts site))
host_called r h o parts None k b g t m q = done_is r (lawful.gives o) _ (more_sites r (lawful.gives o) (0 + 0) 1 _ (omega arith) (strict_far r Hosted 0 o parts None (host h) b t m q (begun_far r None (head.Host h) refl k))) g
host_called r h o parts (Some site) k b g t m q = done_is r (lawful.gives o) _ (more_sites r (lawful.gives o) (0 + 1) 1 _ (omega arith) (strict_far r Hosted 0 o parts (Some site) (host h) b t m q (begun_far r None (head.Host h) refl k))) g

pub host_calls_are_lawful : HostCallsAreLawful
unfolding e.call
host_calls_are_lawful r h parts site k m = host_called r h op.Call parts site k refl refl refl refl (all_of r parts m)

pub spread_host_calls_are_lawful : SpreadHostCallsAreLawful
unfolding e.spread_call
spread_host_calls_are_lawful r h parts site k m = host_called r h op.CallList (e.arguments parts ∷ []) site k refl refl refl refl (both (arguments_is r parts m) refl)

pub constructions_are_lawful : ConstructionsAreLawful
constructions_are_lawful r callee parts h k = behind r (op.Primitive Construct) (e.arguments parts ∷ []) callee plainly refl refl refl (both (arguments_is r parts k) refl) h

pub tags_are_lawful : TagsAreLawful
tags_are_lawful r callee receiver object values h k m n = calls_are_lawful r callee receiver (object ∷ values) h k (both m n)

texts_plain : (r : Round) (units : List (List ℕ)) → AllPlain r (map e.text_element units)
texts_plain r [] = tt
texts_plain r (u ∷ units) = (element_plain r (text u) (text_is r u), texts_plain r units)

texts_is : (r : Round) (units : List (List ℕ)) → Sound r (e.texts units)
texts_is r units = list_is r head.ArgumentList _ refl refl (texts_plain r units)

pub template_objects_are_lawful : TemplateObjectsAreLawful
template_objects_are_lawful r cooked raw = behind r (op.Primitive TemplateObject) (e.texts raw ∷ []) (e.texts cooked) plainly refl refl refl (both (texts_is r raw) refl) (texts_is r cooked)
