-- What is derived in any mode is derived with exact spans and no sites, as a tree that is the same but for spans and sites.
use Rattle.std.proofs.Common.{◌≡◌, ℕ, ◌≤◌, Bool, List, [], ◌∷◌, Option, Some, None, map, length, refl, sym, ap, subst, ◌∙◌, arith}
use Rattle.std.specs.Option.{option_map}
use Rattle.es_text.specs.declared.Span.{Span}
use Rattle.es5_ast.specs.declared.tree.Identifier5.{Identifier5}
use Rattle.es5_ast.specs.declared.tree.PlacedKey5.{PlacedKey5}
use Rattle.es5_ast.specs.declared.tree.Stat5.{Stat5}
use Rattle.es5_ast.specs.declared.tree.Stat5.TheVariants as stat
use Rattle.es5_ast.specs.declared.tree.Declared5.{Declared5, roll-Declared5}
use Rattle.es5_ast.specs.declared.tree.Block5.{Block5, roll-Block5}
use Rattle.es5_ast.specs.declared.tree.Condition5.{Condition5, roll-Condition5}
use Rattle.es5_ast.specs.declared.tree.ForFirst5.{ForFirst5}
use Rattle.es5_ast.specs.declared.tree.ForFirst5.TheVariants as for_first
use Rattle.es5_ast.specs.declared.tree.Case5.{Case5, roll-Case5}
use Rattle.es5_ast.specs.declared.tree.Catch5.{Catch5, roll-Catch5}
use Rattle.es5_ast.specs.declared.tree.Function5 as f5
use Rattle.es5_ast.specs.declared.tree.Function5.{Function5, roll-Function5}
use Rattle.es5_ast.specs.declared.tree.Expr5.{Expr5}
use Rattle.es5_ast.specs.declared.tree.Expr5.TheVariants as expr
use Rattle.es5_ast.specs.declared.tree.Element5.{Element5}
use Rattle.es5_ast.specs.declared.tree.Element5.TheVariants as element
use Rattle.es5_ast.specs.declared.tree.Property5.{Property5}
use Rattle.es5_ast.specs.declared.tree.Property5.TheVariants as property
use Rattle.es5_ast.specs.declared.tree.Link5.{Link5}
use Rattle.es5_ast.specs.declared.tree.Link5.TheVariants as link
use Rattle.es5_ast.specs.declared.tree.Operand5.{Operand5, roll-Operand5}
use Rattle.es5_ast.specs.Lexical.{Token5}
use Rattle.es5_ast.specs.Grammar as g
use Rattle.es5_ast.specs.Grammar.{Mode5, Exact, Aside, Spans, Sites, IsExpr, IsNode, IsNewCallee, AreElements, AreProperties, IsProperty, IsAccessor, AreLinks, AreArguments, AreOperands, AreParts, IsFunction, AreStats, IsStat, IsBlock, AreDeclared, IsDeclared, IsIf, IsCondition, IsForFirst, IsOptional, IsClosed, IsLabel, IsReturned, AreCases, AreInCase, IsCatch, IsProgram, IsIdentifier, IsKey, AreParameters, across, link_sites}
use Rattle.es5_ast.specs.Bare.{nowhere, bare_name, bare_key, bare_element, bare_expr, bare_for_first, bare_link, bare_property, bare_stat, bare_block, bare_case, bare_catch, bare_condition, bare_declared, bare_function, bare_operand, bare_statements}
use Rattle.es5_reading.proofs.SoundOperators.{member-sites, index-sites, call-sites}
use Rattle.es5_reading.proofs.Bare as b

-- a mode that holds where spans are exact and no call carries a site
pub record Target (to : Mode5) : Type 0 where
  pub place : (ts us : List Token5) → Spans to ts us (across ts us)
  pub none : (ts : List Token5) (ls : List Link5) → link_sites ls ≡ [] → Sites to ts ls

pub exact : Target Exact
exact = record { place = λ ts us. refl; none = λ ts ls e. e }

pub aside : Target Aside
aside = record { place = λ ts us. tt; none = λ ts ls e. subst (λ xs. length xs ≤ 1) (sym e) (omega arith) }

-- such a tree
pub record Like {A : Type 0} (bare : A → A) (D : A → Type 0) (x : A) : Type 0 where
  pub tree : A
  pub derived : D tree
  pub same : bare tree ≡ bare x

-- nodes of parts that are the same
like0 : {A : Type 0} (bare : A → A) {x y z v : A} → bare y ≡ v → bare x ≡ v → z ≡ x → bare y ≡ bare z
like0 bare p q e = p ∙ sym q ∙ ap bare (sym e)

like1 : {A B : Type 0} (bare : A → A) (f : B → A) {a a' : B} {x y z : A} → bare y ≡ f a → bare x ≡ f a' → z ≡ x → a ≡ a' → bare y ≡ bare z
like1 bare f p q e h = p ∙ ap f h ∙ sym q ∙ ap bare (sym e)

like2 : {A B C : Type 0} (bare : A → A) (f : B → C → A) {a a' : B} {c c' : C} {x y z : A} → bare y ≡ f a c → bare x ≡ f a' c' → z ≡ x → a ≡ a' → c ≡ c' → bare y ≡ bare z
like2 bare f {a' = a'} {c = c} p q e h k = p ∙ ap (λ u. f u c) h ∙ ap (λ u. f a' u) k ∙ sym q ∙ ap bare (sym e)

like3 : {A B C D : Type 0} (bare : A → A) (f : B → C → D → A) {a a' : B} {c c' : C} {d d' : D} {x y z : A} → bare y ≡ f a c d → bare x ≡ f a' c' d' → z ≡ x → a ≡ a' → c ≡ c' → d ≡ d' → bare y ≡ bare z
like3 bare f {a' = a'} {c = c} {c' = c'} {d = d} p q e h k l = p ∙ ap (λ u. f u c d) h ∙ ap (λ u. f a' u d) k ∙ ap (λ u. f a' c' u) l ∙ sym q ∙ ap bare (sym e)

like4 : {A B C D E : Type 0} (bare : A → A) (f : B → C → D → E → A) {a a' : B} {c c' : C} {d d' : D} {g g' : E} {x y z : A} → bare y ≡ f a c d g → bare x ≡ f a' c' d' g' → z ≡ x → a ≡ a' → c ≡ c' → d ≡ d' → g ≡ g' → bare y ≡ bare z
like4 bare f {a' = a'} {c = c} {c' = c'} {d = d} {d' = d'} {g = g} p q e h k l m = p ∙ ap (λ u. f u c d g) h ∙ ap (λ u. f a' u d g) k ∙ ap (λ u. f a' c' u g) l ∙ ap (λ u. f a' c' d' u) m ∙ sym q ∙ ap bare (sym e)

cons : {A : Type 0} {x y : A} {xs ys : List A} → x ≡ y → xs ≡ ys → x ∷ xs ≡ y ∷ ys
cons {y = y} {xs = xs} h k = ap (λ u. u ∷ xs) h ∙ ap (λ u. y ∷ u) k

some : {A : Type 0} {x y : A} → x ≡ y → Some x ≡ Some y
some h = ap (λ u. Some u) h

-- a list that isn't empty
record LikeCons {A : Type 0} (bare : A → A) (D : List A → Type 0) (xs : List A) : Type 0 where
  head : A
  tail : List A
  derived : D (head ∷ tail)
  same : map bare (head ∷ tail) ≡ map bare xs

uncons : {A : Type 0} (bare : A → A) (D : List A → Type 0) (x : A) (xs : List A) → Like (map bare) D (x ∷ xs) → LikeCons bare D (x ∷ xs)
uncons {A = A} bare D x xs r = at r.tree r.derived r.same
  where
    at : (ys : List A) → D ys → map bare ys ≡ map bare (x ∷ xs) → LikeCons bare D (x ∷ xs)
    at [] d e = absurd (cc)
    at (y ∷ ys) d e = record { head = y; tail = ys; derived = d; same = e }

nameP : {to mode : Mode5} {ts us : List Token5} {x : Identifier5} → Target to → IsIdentifier mode ts x us → Like bare_name (λ y. IsIdentifier to ts y us) x
nameP {ts = ts} {us = us} {x = x} m d = record { tree = record x { span = across ts us }; derived = record { token = d.token; first = d.first; word = d.word; free = d.free; spans = m.place ts us }; same = refl }

keyP : {to mode : Mode5} {ts us : List Token5} {x : PlacedKey5} → Target to → IsKey mode ts x us → Like bare_key (λ y. IsKey to ts y us) x
keyP {ts = ts} {us = us} {x = x} m d = record { tree = record x { span = across ts us }; derived = record { token = d.token; first = d.first; kind = d.kind; spans = m.place ts us }; same = refl }

parametersP : {to mode : Mode5} {ts us : List Token5} {xs : List Identifier5} → Target to → AreParameters mode ts xs us → Like (map bare_name) (λ ys. AreParameters to ts ys us) xs
parametersP m (g.no_parameter p) = record { tree = []; derived = g.no_parameter p; same = refl }
parametersP m (g.last_parameter d p) = let x = nameP m d in record { tree = x.tree ∷ []; derived = g.last_parameter x.derived p; same = cons x.same refl }
parametersP {to = to} m (g.next_parameter {y = y} {xs = xs} {us = us} {vs = vs} d p ds) = let x = nameP m d in let r = uncons bare_name (λ ys. AreParameters to us ys vs) y xs (parametersP m ds) in
    record { tree = x.tree ∷ r.head ∷ r.tail; derived = g.next_parameter x.derived p r.derived; same = cons x.same r.same }

labelP : {to mode : Mode5} {ts us : List Token5} {x : Option Identifier5} → Target to → IsLabel mode ts x us → Like (option_map bare_name) (λ y. IsLabel to ts y us) x
labelP m g.no_label = record { tree = None; derived = g.no_label; same = refl }
labelP m (g.label a d) = let x = nameP m d in record { tree = Some x.tree; derived = g.label a x.derived; same = some x.same }

abbrev function_of : Span → Option Identifier5 → List Identifier5 → List Stat5 → Function5
function_of span name xs ss = roll-Function5 (record { span = span; name = name; parameters = xs; body = ss })

abbrev name_of : Function5 → Option Identifier5
name_of f = (f5.out-Function5 f).name

made-name : (x : Function5) (span : Span) (n : Option Identifier5) (ps : List Identifier5) (body : List Stat5) → x ≡ function_of span n ps body → name_of x ≡ n
made-name x span n ps body e = ap (λ f. (f5.out-Function5 f).name) e ∙ ap (λ r. r.name) (f5.out-roll-Function5 (record { span = span; name = n; parameters = ps; body = body }))

declared-name : (span : Span) (x : Identifier5) (ps : List Identifier5) (body : List Stat5) → name_of (function_of span (Some x) ps body) ≡ Some x
declared-name span x ps body = made-name _ span (Some x) ps body refl

record LikeFunction (to : Mode5) (ts us : List Token5) (f : Function5) : Type 0 where
  span : Span
  name : Option Identifier5
  parameters : List Identifier5
  body : List Stat5
  derived : IsFunction to ts (function_of span name parameters body) us
  same : bare_function (function_of span name parameters body) ≡ bare_function f
  named : option_map bare_name name ≡ option_map bare_name (name_of f)

-- a function with a name
record LikeNamed (to : Mode5) (ts us : List Token5) (f : Function5) : Type 0 where
  span : Span
  name : Identifier5
  parameters : List Identifier5
  body : List Stat5
  derived : IsFunction to ts (function_of span (Some name) parameters body) us
  same : bare_function (function_of span (Some name) parameters body) ≡ bare_function f

likes-named : {to : Mode5} {ts us : List Token5} (f : Function5) (x : Identifier5) → name_of f ≡ Some x → LikeFunction to ts us f → LikeNamed to ts us f
likes-named {to = to} {ts = ts} {us = us} f x h r = at r.name r.derived r.same (r.named ∙ ap (option_map bare_name) h)
  where
    at : (name : Option Identifier5) → IsFunction to ts (function_of r.span name r.parameters r.body) us → bare_function (function_of r.span name r.parameters r.body) ≡ bare_function f → option_map bare_name name ≡ Some (bare_name x) → LikeNamed to ts us f
    at None d s n = absurd (cc)
    at (Some y) d s n = record { span = r.span; name = y; parameters = r.parameters; body = r.body; derived = d; same = s }

record LikeIf (to : Mode5) (inside : Bool) (ts us : List Token5) (c : Condition5) (more : List Condition5) (last : Option Stat5) : Type 0 where
  condition : Condition5
  others : List Condition5
  otherwise : Option Stat5
  derived : IsIf to inside ts condition others otherwise us
  same_condition : bare_condition condition ≡ bare_condition c
  same_others : map bare_condition others ≡ map bare_condition more
  same_otherwise : option_map bare_stat otherwise ≡ option_map bare_stat last

mutual
  exprP : {to mode : Mode5} {k : Bool} {least : ℕ} {ts us : List Token5} {x : Expr5} → Target to → IsExpr mode k least ts x us → Like bare_expr (λ y. IsExpr to k least ts y us) x
  exprP m (g.bare level h d) = let r = nodeP m d in record { tree = r.tree; derived = g.bare level h r.derived; same = r.same }
  exprP m (g.group p d q) = let r = exprP m d in record { tree = r.tree; derived = g.group p r.derived q; same = r.same }

  nodeP : {to mode : Mode5} {k : Bool} {level : ℕ} {ts us : List Token5} {x : Expr5} → Target to → IsNode mode k level ts x us → Like bare_expr (λ y. IsNode to k level ts y us) x
  nodeP m (g.this {t = t} {ts = ts} span e s w) =
      record { tree = expr.This (across (t ∷ ts) ts); derived = g.this _ refl (m.place _ _) w; same = like0 bare_expr (b.bare_expr-This _) (b.bare_expr-This span) e }
  nodeP m (g.identifier {t = t} {ts = ts} span name e s w f) =
      record { tree = expr.Name (across (t ∷ ts) ts) name; derived = g.identifier _ name refl (m.place _ _) w f; same = like0 bare_expr (b.bare_expr-Name _ name) (b.bare_expr-Name span name) e }
  nodeP m (g.literal {t = t} {ts = ts} span value e s w) =
      record { tree = expr.Literal (across (t ∷ ts) ts) value; derived = g.literal _ value refl (m.place _ _) w; same = like0 bare_expr (b.bare_expr-Literal _ value) (b.bare_expr-Literal span value) e }
  nodeP m (g.array {t = t} {ts = ts} {us = us} span xs e s p d) = let r = elementsP m d in
      record { tree = expr.ArrayList (across (t ∷ ts) us) r.tree; derived = g.array _ _ refl (m.place _ _) p r.derived; same = like1 bare_expr (λ u. expr.ArrayList nowhere u) (b.bare_expr-ArrayList _ r.tree) (b.bare_expr-ArrayList span xs) e r.same }
  nodeP m (g.object {t = t} {ts = ts} {us = us} span xs e s p d) = let r = propertiesP m d in
      record { tree = expr.ObjectList (across (t ∷ ts) us) r.tree; derived = g.object _ _ refl (m.place _ _) p r.derived; same = like1 bare_expr (λ u. expr.ObjectList nowhere u) (b.bare_expr-ObjectList _ r.tree) (b.bare_expr-ObjectList span xs) e r.same }
  nodeP m (g.function f e d) = let r = functionP m d in
      record { tree = expr.Function (function_of r.span r.name r.parameters r.body); derived = g.function _ refl r.derived; same = like1 bare_expr (λ u. expr.Function u) (b.bare_expr-Function _) (b.bare_expr-Function f) e r.same }
  nodeP {to = to} m (g.chain {ts = ts} {us = us} {vs = vs} calls span h l ls e s q d ds) = let r = exprP m d in let rs = uncons bare_link (λ ys. AreLinks to calls us ys vs × (link_sites ys ≡ [])) l ls (linksP m ds) in
      record { tree = expr.Chain (across ts vs) r.tree (rs.head ∷ rs.tail); derived = g.chain calls _ _ _ _ refl (m.place _ _) (m.none _ _ rs.derived.1) r.derived rs.derived.0; same = like2 bare_expr (λ u v. expr.Chain nowhere u v) (b.bare_expr-Chain _ r.tree (rs.head ∷ rs.tail)) (b.bare_expr-Chain span h (l ∷ ls)) e r.same rs.same }
  nodeP m (g.new_call {t = t} {ts = ts} {vs = vs} span c xs e s w d p ds) = let r = exprP m d in let rs = argumentsP m ds in
      record { tree = expr.New (across (t ∷ ts) vs) r.tree rs.tree; derived = g.new_call _ _ _ refl (m.place _ _) w r.derived p rs.derived; same = like2 bare_expr (λ u v. expr.New nowhere u v) (b.bare_expr-New _ r.tree rs.tree) (b.bare_expr-New span c xs) e r.same rs.same }
  nodeP m (g.new_bare {t = t} {ts = ts} {us = us} span c e s w d) = let r = newCalleeP m d in
      record { tree = expr.New (across (t ∷ ts) us) r.tree []; derived = g.new_bare _ _ refl (m.place _ _) w r.derived; same = like1 bare_expr (λ u. expr.New nowhere u []) (b.bare_expr-New _ r.tree []) (b.bare_expr-New span c []) e r.same }
  nodeP m (g.update_after {ts = ts} {us = us} span op x e s h d t a) = let r = exprP m d in
      record { tree = expr.Update (across ts us) op r.tree; derived = g.update_after _ op _ refl (m.place _ _) h r.derived t a; same = like1 bare_expr (λ u. expr.Update nowhere op u) (b.bare_expr-Update _ op r.tree) (b.bare_expr-Update span op x) e r.same }
  nodeP m (g.update_before {t = w} {ts = ts} {us = us} span op x e s h t d) = let r = exprP m d in
      record { tree = expr.Update (across (w ∷ ts) us) op r.tree; derived = g.update_before _ op _ refl (m.place _ _) h t r.derived; same = like1 bare_expr (λ u. expr.Update nowhere op u) (b.bare_expr-Update _ op r.tree) (b.bare_expr-Update span op x) e r.same }
  nodeP m (g.unary {t = w} {ts = ts} {us = us} span op x e s t d) = let r = exprP m d in
      record { tree = expr.Unary (across (w ∷ ts) us) op r.tree; derived = g.unary _ op _ refl (m.place _ _) t r.derived; same = like1 bare_expr (λ u. expr.Unary nowhere op u) (b.bare_expr-Unary _ op r.tree) (b.bare_expr-Unary span op x) e r.same }
  nodeP {to = to} m (g.binary_chain {no_in = k} {ts = ts} {us = us} {vs = vs} level span x o os e s d ds) = let r = exprP m d in let rs = uncons bare_operand (λ ys. AreOperands to k level us ys vs) o os (operandsP m ds) in
      record { tree = expr.Binary (across ts vs) r.tree (rs.head ∷ rs.tail); derived = g.binary_chain level _ _ _ _ refl (m.place _ _) r.derived rs.derived; same = like2 bare_expr (λ u v. expr.Binary nowhere u v) (b.bare_expr-Binary _ r.tree (rs.head ∷ rs.tail)) (b.bare_expr-Binary span x (o ∷ os)) e r.same rs.same }
  nodeP m (g.conditional {ts = ts} {ws = ws} span x y z e s d p a q c) = let r = exprP m d in let ra = exprP m a in let rc = exprP m c in
      record { tree = expr.Conditional (across ts ws) r.tree ra.tree rc.tree; derived = g.conditional _ _ _ _ refl (m.place _ _) r.derived p ra.derived q rc.derived; same = like3 bare_expr (λ u v w. expr.Conditional nowhere u v w) (b.bare_expr-Conditional _ r.tree ra.tree rc.tree) (b.bare_expr-Conditional span x y z) e r.same ra.same rc.same }
  nodeP m (g.assignment {ts = ts} {vs = vs} span op x y e s d t c) = let r = exprP m d in let rc = exprP m c in
      record { tree = expr.Assign (across ts vs) op r.tree rc.tree; derived = g.assignment _ op _ _ refl (m.place _ _) r.derived t rc.derived; same = like2 bare_expr (λ u v. expr.Assign nowhere op u v) (b.bare_expr-Assign _ op r.tree rc.tree) (b.bare_expr-Assign span op x y) e r.same rc.same }
  nodeP {to = to} m (g.sequence {no_in = k} {ts = ts} {us = us} {vs = vs} span x y ys e s d ds) = let r = exprP m d in let rs = uncons bare_expr (λ zs. AreParts to k us zs vs) y ys (partsP m ds) in
      record { tree = expr.Sequence (across ts vs) r.tree (rs.head ∷ rs.tail); derived = g.sequence _ _ _ _ refl (m.place _ _) r.derived rs.derived; same = like2 bare_expr (λ u v. expr.Sequence nowhere u v) (b.bare_expr-Sequence _ r.tree (rs.head ∷ rs.tail)) (b.bare_expr-Sequence span x (y ∷ ys)) e r.same rs.same }

  newCalleeP : {to mode : Mode5} {ts us : List Token5} {x : Expr5} → Target to → IsNewCallee mode ts x us → Like bare_expr (λ y. IsNewCallee to ts y us) x
  newCalleeP m (g.another_new d) = let r = nodeP m d in record { tree = r.tree; derived = g.another_new r.derived; same = r.same }
  newCalleeP m (g.member d) = let r = exprP m d in record { tree = r.tree; derived = g.member r.derived; same = r.same }

  elementsP : {to mode : Mode5} {ts us : List Token5} {xs : List Element5} → Target to → AreElements mode ts xs us → Like (map bare_element) (λ ys. AreElements to ts ys us) xs
  elementsP m (g.no_element p) = record { tree = []; derived = g.no_element p; same = refl }
  elementsP m (g.hole p d) = let r = elementsP m d in record { tree = element.Hole ∷ r.tree; derived = g.hole p r.derived; same = cons refl r.same }
  elementsP m (g.last_element {x = x} d p) = let r = exprP m d in
      record { tree = element.Element r.tree ∷ []; derived = g.last_element r.derived p; same = cons (like1 bare_element (λ u. element.Element u) (b.bare_element-Element r.tree) (b.bare_element-Element x) refl r.same) refl }
  elementsP m (g.next_element {x = x} d p ds) = let r = exprP m d in let rs = elementsP m ds in
      record { tree = element.Element r.tree ∷ rs.tree; derived = g.next_element r.derived p rs.derived; same = cons (like1 bare_element (λ u. element.Element u) (b.bare_element-Element r.tree) (b.bare_element-Element x) refl r.same) rs.same }

  propertiesP : {to mode : Mode5} {ts us : List Token5} {xs : List Property5} → Target to → AreProperties mode ts xs us → Like (map bare_property) (λ ys. AreProperties to ts ys us) xs
  propertiesP m (g.no_property p) = record { tree = []; derived = g.no_property p; same = refl }
  propertiesP m (g.last_property d p) = let r = propertyP m d in record { tree = r.tree ∷ []; derived = g.last_property r.derived p; same = cons r.same refl }
  propertiesP m (g.next_property d p ds) = let r = propertyP m d in let rs = propertiesP m ds in record { tree = r.tree ∷ rs.tree; derived = g.next_property r.derived p rs.derived; same = cons r.same rs.same }

  propertyP : {to mode : Mode5} {ts us : List Token5} {x : Property5} → Target to → IsProperty mode ts x us → Like bare_property (λ y. IsProperty to ts y us) x
  propertyP m (g.plain {ts = ts} {vs = vs} span k x e s d p y) = let rk = keyP m d in let r = exprP m y in
      record { tree = property.Plain (across ts vs) rk.tree r.tree; derived = g.plain _ _ _ refl (m.place _ _) rk.derived p r.derived; same = like2 bare_property (λ u v. property.Plain nowhere u v) (b.bare_property-Plain _ rk.tree r.tree) (b.bare_property-Plain span k x) e rk.same r.same }
  propertyP m (g.getter {t = t} {ts = ts} {vs = vs} span k f e s w d a) = let rk = keyP m d in let r = accessorP m a in
      record { tree = property.Getter (across (t ∷ ts) vs) rk.tree r.tree; derived = g.getter _ _ _ refl (m.place _ _) w rk.derived r.derived; same = like2 bare_property (λ u v. property.Getter nowhere u v) (b.bare_property-Getter _ rk.tree r.tree) (b.bare_property-Getter span k f) e rk.same r.same }
  propertyP m (g.setter {t = t} {ts = ts} {vs = vs} span k f e s w d a) = let rk = keyP m d in let r = accessorP m a in
      record { tree = property.Setter (across (t ∷ ts) vs) rk.tree r.tree; derived = g.setter _ _ _ refl (m.place _ _) w rk.derived r.derived; same = like2 bare_property (λ u v. property.Setter nowhere u v) (b.bare_property-Setter _ rk.tree r.tree) (b.bare_property-Setter span k f) e rk.same r.same }

  accessorP : {to mode : Mode5} {setter : Bool} {ts us : List Token5} {x : Function5} → Target to → IsAccessor mode setter ts x us → Like bare_function (λ y. IsAccessor to setter ts y us) x
  accessorP m (g.no_value {open_ = o} {close = c} {brace = a} {ts = ts} {us = us} span ss e s p q w d) = let r = statsP m d in
      record { tree = roll-Function5 (record { span = across (o ∷ c ∷ a ∷ ts) us; name = None; parameters = []; body = r.tree }); derived = g.no_value _ _ refl (m.place _ _) p q w r.derived; same = like1 bare_function (λ u. roll-Function5 (record { span = nowhere; name = None; parameters = []; body = u })) (b.bare_function-roll _ None [] r.tree) (b.bare_function-roll span None [] ss) e r.same }
  accessorP m (g.one_value {open_ = o} {ts = ts} {vs = vs} span x ss e s p i q w d) = let rx = nameP m i in let r = statsP m d in
      record { tree = roll-Function5 (record { span = across (o ∷ ts) vs; name = None; parameters = rx.tree ∷ []; body = r.tree }); derived = g.one_value _ _ _ refl (m.place _ _) p rx.derived q w r.derived; same = like2 bare_function (λ v u. roll-Function5 (record { span = nowhere; name = None; parameters = v; body = u })) (b.bare_function-roll _ None (rx.tree ∷ []) r.tree) (b.bare_function-roll span None (x ∷ []) ss) e (cons rx.same refl) r.same }

  linksP : {to mode : Mode5} {calls : Bool} {ts us : List Token5} {xs : List Link5} → Target to → AreLinks mode calls ts xs us → Like (map bare_link) (λ ys. AreLinks to calls ts ys us × (link_sites ys ≡ [])) xs
  linksP m g.no_link = record { tree = []; derived = (g.no_link, refl); same = refl }
  linksP m (g.member_link {dot = o} {t = t} {ts = ts} {us = us} span name e s p w d) = let r = linksP m d in
      record { tree = link.Member (across (o ∷ t ∷ ts) ts) name ∷ r.tree; derived = (g.member_link _ name refl (m.place _ _) p w r.derived.0, member-sites _ name r.tree ∙ r.derived.1); same = cons (like0 bare_link (b.bare_link-Member _ name) (b.bare_link-Member span name) e) r.same }
  linksP m (g.index_link {open_ = o} {ts = ts} {us = us} span x e s p i q d) = let rx = exprP m i in let r = linksP m d in
      record { tree = link.Index (across (o ∷ ts) us) rx.tree ∷ r.tree; derived = (g.index_link _ _ refl (m.place _ _) p rx.derived q r.derived.0, index-sites _ rx.tree r.tree ∙ r.derived.1); same = cons (like1 bare_link (λ u. link.Index nowhere u) (b.bare_link-Index _ rx.tree) (b.bare_link-Index span x) e rx.same) r.same }
  linksP m (g.call_link {open_ = o} {ts = ts} {us = us} span xs site e s p i d) = let rx = argumentsP m i in let r = linksP m d in
      record { tree = link.Call (across (o ∷ ts) us) rx.tree None ∷ r.tree; derived = (g.call_link _ _ None refl (m.place _ _) p rx.derived r.derived.0, call-sites _ rx.tree r.tree ∙ r.derived.1); same = cons (like1 bare_link (λ u. link.Call nowhere u None) (b.bare_link-Call _ rx.tree None) (b.bare_link-Call span xs site) e rx.same) r.same }

  argumentsP : {to mode : Mode5} {ts us : List Token5} {xs : List Expr5} → Target to → AreArguments mode ts xs us → Like (map bare_expr) (λ ys. AreArguments to ts ys us) xs
  argumentsP m (g.no_argument p) = record { tree = []; derived = g.no_argument p; same = refl }
  argumentsP m (g.last_argument d p) = let r = exprP m d in record { tree = r.tree ∷ []; derived = g.last_argument r.derived p; same = cons r.same refl }
  argumentsP {to = to} m (g.next_argument {y = y} {xs = xs} {us = us} {vs = vs} d p ds) = let r = exprP m d in let rs = uncons bare_expr (λ ys. AreArguments to us ys vs) y xs (argumentsP m ds) in
      record { tree = r.tree ∷ rs.head ∷ rs.tail; derived = g.next_argument r.derived p rs.derived; same = cons r.same rs.same }

  operandsP : {to mode : Mode5} {k : Bool} {level : ℕ} {ts us : List Token5} {xs : List Operand5} → Target to → AreOperands mode k level ts xs us → Like (map bare_operand) (λ ys. AreOperands to k level ts ys us) xs
  operandsP m g.no_operand = record { tree = []; derived = g.no_operand; same = refl }
  operandsP m (g.next_operand op x e h i t d ds) = let r = exprP m d in let rs = operandsP m ds in
      record { tree = roll-Operand5 (record { operator = op; value = r.tree }) ∷ rs.tree; derived = g.next_operand op _ refl h i t r.derived rs.derived; same = cons (like1 bare_operand (λ u. roll-Operand5 (record { operator = op; value = u })) (b.bare_operand-roll op r.tree) (b.bare_operand-roll op x) e r.same) rs.same }

  partsP : {to mode : Mode5} {k : Bool} {ts us : List Token5} {xs : List Expr5} → Target to → AreParts mode k ts xs us → Like (map bare_expr) (λ ys. AreParts to k ts ys us) xs
  partsP m g.no_part = record { tree = []; derived = g.no_part; same = refl }
  partsP m (g.next_part p d ds) = let r = exprP m d in let rs = partsP m ds in record { tree = r.tree ∷ rs.tree; derived = g.next_part p r.derived rs.derived; same = cons r.same rs.same }

  functionP : {to mode : Mode5} {ts us : List Token5} {x : Function5} → Target to → IsFunction mode ts x us → LikeFunction to ts us x
  functionP m (g.anonymous {t = t} {open_ = o} {ts = ts} {vs = vs} {x = x} span ps ss e s w p d q ds) = let rp = parametersP m d in let r = statsP m ds in record {
    span = across (t ∷ o ∷ ts) vs;
    name = None;
    parameters = rp.tree;
    body = r.tree;
    derived = g.anonymous _ _ _ refl (m.place _ _) w p rp.derived q r.derived;
    same = like2 bare_function (λ u v. roll-Function5 (record { span = nowhere; name = None; parameters = u; body = v })) (b.bare_function-roll _ None rp.tree r.tree) (b.bare_function-roll span None ps ss) e rp.same r.same;
    named = ap (option_map bare_name) (sym (made-name x span None ps ss e));
  }
  functionP m (g.named {t = t} {ts = ts} {ws = ws} {x = x} span name ps ss e s w i p d q ds) = let rn = nameP m i in let rp = parametersP m d in let r = statsP m ds in record {
    span = across (t ∷ ts) ws;
    name = Some rn.tree;
    parameters = rp.tree;
    body = r.tree;
    derived = g.named _ _ _ _ refl (m.place _ _) w rn.derived p rp.derived q r.derived;
    same = like3 bare_function (λ n u v. roll-Function5 (record { span = nowhere; name = n; parameters = u; body = v })) (b.bare_function-roll _ (Some rn.tree) rp.tree r.tree) (b.bare_function-roll span (Some name) ps ss) e (some rn.same) rp.same r.same;
    named = some rn.same ∙ ap (option_map bare_name) (sym (made-name x span (Some name) ps ss e));
  }

  statsP : {to mode : Mode5} {inside top : Bool} {ts us : List Token5} {xs : List Stat5} → Target to → AreStats mode inside top ts xs us → Like (map bare_stat) (λ ys. AreStats to inside top ts ys us) xs
  statsP m (g.no_stat p) = record { tree = []; derived = g.no_stat p; same = refl }
  statsP m (g.next_stat d ds) = let r = statP m d in let rs = statsP m ds in record { tree = r.tree ∷ rs.tree; derived = g.next_stat r.derived rs.derived; same = cons r.same rs.same }

  statP : {to mode : Mode5} {inside top : Bool} {ts us : List Token5} {x : Stat5} → Target to → IsStat mode inside top ts x us → Like bare_stat (λ y. IsStat to inside top ts y us) x
  statP m (g.block x e d) = let r = blockP m d in
      record { tree = stat.Block r.tree; derived = g.block _ refl r.derived; same = like1 bare_stat (λ u. stat.Block u) (b.bare_stat-Block r.tree) (b.bare_stat-Block x) e r.same }
  statP m (g.var {t = t} {ts = ts} {us = us} span xs e s w d h) = let r = declaredsP m d in
      record { tree = stat.Var (across (t ∷ ts) us) r.tree; derived = g.var _ _ refl (m.place _ _) w r.derived h; same = like1 bare_stat (λ u. stat.Var nowhere u) (b.bare_stat-Var _ r.tree) (b.bare_stat-Var span xs) e r.same }
  statP m (g.empty {t = t} {ts = ts} span e s p) =
      record { tree = stat.Empty (across (t ∷ ts) ts); derived = g.empty _ refl (m.place _ _) p; same = like0 bare_stat (b.bare_stat-Empty _) (b.bare_stat-Empty span) e }
  statP m (g.expression {ts = ts} {us = us} span x e s h f d q) = let r = exprP m d in
      record { tree = stat.Expression (across ts us) r.tree; derived = g.expression _ _ refl (m.place _ _) h f r.derived q; same = like1 bare_stat (λ u. stat.Expression nowhere u) (b.bare_stat-Expression _ r.tree) (b.bare_stat-Expression span x) e r.same }
  statP m (g.if {ts = ts} {us = us} span c more last e s d) = let r = ifP m d in
      record { tree = stat.If (across ts us) r.condition r.others r.otherwise; derived = g.if _ _ _ _ refl (m.place _ _) r.derived; same = like3 bare_stat (λ u v w. stat.If nowhere u v w) (b.bare_stat-If _ r.condition r.others r.otherwise) (b.bare_stat-If span c more last) e r.same_condition r.same_others r.same_otherwise }
  statP m (g.do_while {t = t} {ts = ts} {vs = vs} span x y e s w d u p c q h) = let r = statP m d in let rc = exprP m c in
      record { tree = stat.DoWhile (across (t ∷ ts) vs) r.tree rc.tree; derived = g.do_while _ _ _ refl (m.place _ _) w r.derived u p rc.derived q h; same = like2 bare_stat (λ u v. stat.DoWhile nowhere u v) (b.bare_stat-DoWhile _ r.tree rc.tree) (b.bare_stat-DoWhile span x y) e r.same rc.same }
  statP m (g.while {t = t} {open_ = o} {ts = ts} {vs = vs} span y x e s w p c q d) = let rc = exprP m c in let r = statP m d in
      record { tree = stat.While (across (t ∷ o ∷ ts) vs) rc.tree r.tree; derived = g.while _ _ _ refl (m.place _ _) w p rc.derived q r.derived; same = like2 bare_stat (λ u v. stat.While nowhere u v) (b.bare_stat-While _ rc.tree r.tree) (b.bare_stat-While span y x) e rc.same r.same }
  statP m (g.for {t = t} {open_ = o} {ts = ts} {xs = xs} span f y z x e s w p df dt q du d) = let rf = firstP m df in let rt = optionalP m dt in let ru = closedP m du in let r = statP m d in
      record { tree = stat.For (across (t ∷ o ∷ ts) xs) rf.tree rt.tree ru.tree r.tree; derived = g.for _ _ _ _ _ refl (m.place _ _) w p rf.derived rt.derived q ru.derived r.derived; same = like4 bare_stat (λ u v a c. stat.For nowhere u v a c) (b.bare_stat-For _ rf.tree rt.tree ru.tree r.tree) (b.bare_stat-For span f y z x) e rf.same rt.same ru.same r.same }
  statP m (g.continue {t = t} {ts = ts} {us = us} span l e s w d h) = let r = labelP m d in
      record { tree = stat.Continue (across (t ∷ ts) us) r.tree; derived = g.continue _ _ refl (m.place _ _) w r.derived h; same = like1 bare_stat (λ u. stat.Continue nowhere u) (b.bare_stat-Continue _ r.tree) (b.bare_stat-Continue span l) e r.same }
  statP m (g.break {t = t} {ts = ts} {us = us} span l e s w d h) = let r = labelP m d in
      record { tree = stat.Break (across (t ∷ ts) us) r.tree; derived = g.break _ _ refl (m.place _ _) w r.derived h; same = like1 bare_stat (λ u. stat.Break nowhere u) (b.bare_stat-Break _ r.tree) (b.bare_stat-Break span l) e r.same }
  statP m (g.return {t = t} {ts = ts} {us = us} span x e s w d h) = let r = returnedP m d in
      record { tree = stat.Return (across (t ∷ ts) us) r.tree; derived = g.return _ _ refl (m.place _ _) w r.derived h; same = like1 bare_stat (λ u. stat.Return nowhere u) (b.bare_stat-Return _ r.tree) (b.bare_stat-Return span x) e r.same }
  statP m (g.switch {t = t} {open_ = o} {ts = ts} {vs = vs} span x cs e s w p d q a ds) = let r = exprP m d in let rs = casesP m ds in
      record { tree = stat.Switch (across (t ∷ o ∷ ts) vs) r.tree rs.tree; derived = g.switch _ _ _ refl (m.place _ _) w p r.derived q a rs.derived; same = like2 bare_stat (λ u v. stat.Switch nowhere u v) (b.bare_stat-Switch _ r.tree rs.tree) (b.bare_stat-Switch span x cs) e r.same rs.same }
  statP m (g.labelled {ts = ts} {vs = vs} span l x e s i p d) = let rl = nameP m i in let r = statP m d in
      record { tree = stat.Labelled (across ts vs) rl.tree r.tree; derived = g.labelled _ _ _ refl (m.place _ _) rl.derived p r.derived; same = like2 bare_stat (λ u v. stat.Labelled nowhere u v) (b.bare_stat-Labelled _ rl.tree r.tree) (b.bare_stat-Labelled span l x) e rl.same r.same }
  statP m (g.throw {t = t} {ts = ts} {us = us} span x e s w a d h) = let r = exprP m d in
      record { tree = stat.Throw (across (t ∷ ts) us) r.tree; derived = g.throw _ _ refl (m.place _ _) w a r.derived h; same = like1 bare_stat (λ u. stat.Throw nowhere u) (b.bare_stat-Throw _ r.tree) (b.bare_stat-Throw span x) e r.same }
  statP m (g.try_catch {t = t} {ts = ts} {vs = vs} span x c e s w d dc) = let r = blockP m d in let rc = catchP m dc in
      record { tree = stat.Try (across (t ∷ ts) vs) r.tree (Some rc.tree) None; derived = g.try_catch _ _ _ refl (m.place _ _) w r.derived rc.derived; same = like2 bare_stat (λ u v. stat.Try nowhere u v None) (b.bare_stat-Try _ r.tree (Some rc.tree) None) (b.bare_stat-Try span x (Some c) None) e r.same (some rc.same) }
  statP m (g.try_finally {t = t} {ts = ts} {vs = vs} span x y e s w d f dl) = let r = blockP m d in let rl = blockP m dl in
      record { tree = stat.Try (across (t ∷ ts) vs) r.tree None (Some rl.tree); derived = g.try_finally _ _ _ refl (m.place _ _) w r.derived f rl.derived; same = like2 bare_stat (λ u v. stat.Try nowhere u None v) (b.bare_stat-Try _ r.tree None (Some rl.tree)) (b.bare_stat-Try span x None (Some y)) e r.same (some rl.same) }
  statP m (g.try_both {t = t} {ts = ts} {ws = ws} span x y c e s w d dc f dl) = let r = blockP m d in let rc = catchP m dc in let rl = blockP m dl in
      record { tree = stat.Try (across (t ∷ ts) ws) r.tree (Some rc.tree) (Some rl.tree); derived = g.try_both _ _ _ _ refl (m.place _ _) w r.derived rc.derived f rl.derived; same = like3 bare_stat (λ u v a. stat.Try nowhere u v a) (b.bare_stat-Try _ r.tree (Some rc.tree) (Some rl.tree)) (b.bare_stat-Try span x (Some c) (Some y)) e r.same (some rc.same) (some rl.same) }
  statP m (g.debugger {t = t} {end = q} {ts = ts} span e s w h) =
      record { tree = stat.Debugger (across (t ∷ q ∷ ts) ts); derived = g.debugger _ refl (m.place _ _) w h; same = like0 bare_stat (b.bare_stat-Debugger _) (b.bare_stat-Debugger span) e }
  statP m (g.declaration {t = t} {ts = ts} {us = us} span x ps ss e d) = let r = likes-named _ x (declared-name span x ps ss) (functionP m d) in
      record { tree = stat.FunctionDeclaration (roll-Function5 (record { span = r.span; name = Some r.name; parameters = r.parameters; body = r.body })); derived = g.declaration _ _ _ _ refl r.derived; same = like1 bare_stat (λ u. stat.FunctionDeclaration u) (b.bare_stat-FunctionDeclaration _) (b.bare_stat-FunctionDeclaration _) e r.same }

  blockP : {to mode : Mode5} {inside : Bool} {ts us : List Token5} {x : Block5} → Target to → IsBlock mode inside ts x us → Like bare_block (λ y. IsBlock to inside ts y us) x
  blockP m (g.braces {t = t} {ts = ts} {us = us} span xs e s p d) = let r = statsP m d in
      record { tree = roll-Block5 (record { span = across (t ∷ ts) us; statements = r.tree }); derived = g.braces _ _ refl (m.place _ _) p r.derived; same = like1 bare_block (λ u. roll-Block5 (record { span = nowhere; statements = u })) (b.bare_block-roll _ r.tree) (b.bare_block-roll span xs) e r.same }

  declaredsP : {to mode : Mode5} {k : Bool} {ts us : List Token5} {xs : List Declared5} → Target to → AreDeclared mode k ts xs us → Like (map bare_declared) (λ ys. AreDeclared to k ts ys us) xs
  declaredsP m (g.last_declared d) = let r = declaredP m d in record { tree = r.tree ∷ []; derived = g.last_declared r.derived; same = cons r.same refl }
  declaredsP {to = to} m (g.next_declared {no_in = k} {e = y} {ds = ys} {us = us} {vs = vs} d p ds) = let r = declaredP m d in let rs = uncons bare_declared (λ zs. AreDeclared to k us zs vs) y ys (declaredsP m ds) in
      record { tree = r.tree ∷ rs.head ∷ rs.tail; derived = g.next_declared r.derived p rs.derived; same = cons r.same rs.same }

  declaredP : {to mode : Mode5} {k : Bool} {ts us : List Token5} {x : Declared5} → Target to → IsDeclared mode k ts x us → Like bare_declared (λ y. IsDeclared to k ts y us) x
  declaredP m (g.uninitialized {ts = ts} {us = us} span x e s i) = let rx = nameP m i in
      record { tree = roll-Declared5 (record { span = across ts us; name = rx.tree; init = None }); derived = g.uninitialized _ _ refl (m.place _ _) rx.derived; same = like1 bare_declared (λ u. roll-Declared5 (record { span = nowhere; name = u; init = None })) (b.bare_declared-roll _ rx.tree None) (b.bare_declared-roll span x None) e rx.same }
  declaredP m (g.initialized {ts = ts} {vs = vs} span x y e s i p d) = let rx = nameP m i in let r = exprP m d in
      record { tree = roll-Declared5 (record { span = across ts vs; name = rx.tree; init = Some r.tree }); derived = g.initialized _ _ _ refl (m.place _ _) rx.derived p r.derived; same = like2 bare_declared (λ u v. roll-Declared5 (record { span = nowhere; name = u; init = v })) (b.bare_declared-roll _ rx.tree (Some r.tree)) (b.bare_declared-roll span x (Some y)) e rx.same (some r.same) }

  ifP : {to mode : Mode5} {inside : Bool} {ts us : List Token5} {x : Condition5} {xs : List Condition5} {last : Option Stat5} → Target to → IsIf mode inside ts x xs last us → LikeIf to inside ts us x xs last
  ifP m (g.no_else c h) = let r = conditionP m c in record { condition = r.tree; others = []; otherwise = None; derived = g.no_else r.derived h; same_condition = r.same; same_others = refl; same_otherwise = refl }
  ifP m (g.last_else c w h d) = let r = conditionP m c in let rs = statP m d in record { condition = r.tree; others = []; otherwise = Some rs.tree; derived = g.last_else r.derived w h rs.derived; same_condition = r.same; same_others = refl; same_otherwise = some rs.same }
  ifP m (g.else_if c w d) = let r = conditionP m c in let rs = ifP m d in record { condition = r.tree; others = rs.condition ∷ rs.others; otherwise = rs.otherwise; derived = g.else_if r.derived w rs.derived; same_condition = r.same; same_others = cons rs.same_condition rs.same_others; same_otherwise = rs.same_otherwise }

  conditionP : {to mode : Mode5} {inside : Bool} {ts us : List Token5} {x : Condition5} → Target to → IsCondition mode inside ts x us → Like bare_condition (λ y. IsCondition to inside ts y us) x
  conditionP m (g.condition {t = t} {open_ = o} {ts = ts} {vs = vs} span x y e s w p d q c) = let r = exprP m d in let rc = statP m c in
      record { tree = roll-Condition5 (record { span = across (t ∷ o ∷ ts) vs; test = r.tree; body = rc.tree }); derived = g.condition _ _ _ refl (m.place _ _) w p r.derived q rc.derived; same = like2 bare_condition (λ u v. roll-Condition5 (record { span = nowhere; test = u; body = v })) (b.bare_condition-roll _ r.tree rc.tree) (b.bare_condition-roll span x y) e r.same rc.same }

  firstP : {to mode : Mode5} {ts us : List Token5} {x : ForFirst5} → Target to → IsForFirst mode ts x us → Like bare_for_first (λ y. IsForFirst to ts y us) x
  firstP m (g.nothing_first p) = record { tree = for_first.NoFirst; derived = g.nothing_first p; same = refl }
  firstP m (g.var_first xs e w d p) = let r = declaredsP m d in
      record { tree = for_first.FirstVar r.tree; derived = g.var_first _ refl w r.derived p; same = like1 bare_for_first (λ u. for_first.FirstVar u) (b.bare_for_first-FirstVar r.tree) (b.bare_for_first-FirstVar xs) e r.same }
  firstP m (g.expression_first x e d p) = let r = exprP m d in
      record { tree = for_first.FirstExpression r.tree; derived = g.expression_first _ refl r.derived p; same = like1 bare_for_first (λ u. for_first.FirstExpression u) (b.bare_for_first-FirstExpression r.tree) (b.bare_for_first-FirstExpression x) e r.same }

  optionalP : {to mode : Mode5} {ts us : List Token5} {x : Option Expr5} → Target to → IsOptional mode ts x us → Like (option_map bare_expr) (λ y. IsOptional to ts y us) x
  optionalP m g.absent = record { tree = None; derived = g.absent; same = refl }
  optionalP m (g.present d) = let r = exprP m d in record { tree = Some r.tree; derived = g.present r.derived; same = some r.same }

  closedP : {to mode : Mode5} {ts us : List Token5} {x : Option Expr5} → Target to → IsClosed mode ts x us → Like (option_map bare_expr) (λ y. IsClosed to ts y us) x
  closedP m (g.closed d p) = let r = optionalP m d in record { tree = r.tree; derived = g.closed r.derived p; same = r.same }

  returnedP : {to mode : Mode5} {ts us : List Token5} {x : Option Expr5} → Target to → IsReturned mode ts x us → Like (option_map bare_expr) (λ y. IsReturned to ts y us) x
  returnedP m g.no_value_returned = record { tree = None; derived = g.no_value_returned; same = refl }
  returnedP m (g.value_returned a d) = let r = exprP m d in record { tree = Some r.tree; derived = g.value_returned a r.derived; same = some r.same }

  casesP : {to mode : Mode5} {inside may : Bool} {ts us : List Token5} {xs : List Case5} → Target to → AreCases mode inside may ts xs us → Like (map bare_case) (λ ys. AreCases to inside may ts ys us) xs
  casesP m (g.no_case p) = record { tree = []; derived = g.no_case p; same = refl }
  casesP m (g.case_clause {t = t} {ts = ts} {vs = vs} span x ss e s w d p ds cs) = let r = exprP m d in let rs = inCaseP m ds in let rc = casesP m cs in
      record { tree = roll-Case5 (record { span = across (t ∷ ts) vs; test = Some r.tree; body = rs.tree }) ∷ rc.tree; derived = g.case_clause _ _ _ refl (m.place _ _) w r.derived p rs.derived rc.derived; same = cons (like2 bare_case (λ u v. roll-Case5 (record { span = nowhere; test = u; body = v })) (b.bare_case-roll _ (Some r.tree) rs.tree) (b.bare_case-roll span (Some x) ss) e (some r.same) rs.same) rc.same }
  casesP m (g.default_clause {t = t} {colon = o} {ts = ts} {us = us} span ss e s w p ds cs) = let rs = inCaseP m ds in let rc = casesP m cs in
      record { tree = roll-Case5 (record { span = across (t ∷ o ∷ ts) us; test = None; body = rs.tree }) ∷ rc.tree; derived = g.default_clause _ _ refl (m.place _ _) w p rs.derived rc.derived; same = cons (like1 bare_case (λ v. roll-Case5 (record { span = nowhere; test = None; body = v })) (b.bare_case-roll _ None rs.tree) (b.bare_case-roll span None ss) e rs.same) rc.same }

  inCaseP : {to mode : Mode5} {inside : Bool} {ts us : List Token5} {xs : List Stat5} → Target to → AreInCase mode inside ts xs us → Like (map bare_stat) (λ ys. AreInCase to inside ts ys us) xs
  inCaseP m g.no_more_in_case = record { tree = []; derived = g.no_more_in_case; same = refl }
  inCaseP m (g.next_in_case d ds) = let r = statP m d in let rs = inCaseP m ds in record { tree = r.tree ∷ rs.tree; derived = g.next_in_case r.derived rs.derived; same = cons r.same rs.same }

  catchP : {to mode : Mode5} {inside : Bool} {ts us : List Token5} {x : Catch5} → Target to → IsCatch mode inside ts x us → Like bare_catch (λ y. IsCatch to inside ts y us) x
  catchP m (g.handler {t = t} {open_ = o} {ts = ts} {vs = vs} span x c e s w p i q d) = let rx = nameP m i in let r = blockP m d in
      record { tree = roll-Catch5 (record { span = across (t ∷ o ∷ ts) vs; parameter = rx.tree; body = r.tree }); derived = g.handler _ _ _ refl (m.place _ _) w p rx.derived q r.derived; same = like2 bare_catch (λ u v. roll-Catch5 (record { span = nowhere; parameter = u; body = v })) (b.bare_catch-roll _ rx.tree r.tree) (b.bare_catch-roll span x c) e rx.same r.same }

pub placed-program : {to mode : Mode5} {ts : List Token5} {xs : List Stat5} → Target to → IsProgram mode ts xs → Like bare_statements (λ ys. IsProgram to ts ys) xs
placed-program m g.no_more = record { tree = []; derived = g.no_more; same = refl }
placed-program m (g.one_more d ds) = let r = statP m d in let rs = placed-program m ds in record { tree = r.tree ∷ rs.tree; derived = g.one_more r.derived rs.derived; same = cons r.same rs.same }
