-- Operators, literals and assignments that are emitted.
use Rattle.std.specs.List.{list_any}
use Rattle.std.specs.Str.{bytes_eq}
use Rattle.std.proofs.Common.{◌≡◌, ℕ, Bool, true, false, ◌&&◌, ◌||◌, nat_eq, List, [], ◌∷◌, ◌++◌, map, refl, sym, ap, arith, ◌∙◌}
use Rattle.std.proofs.lemmas.Bool.{false≢true, eq-eqb, eqb-true}
use Rattle.es_text.specs.declared.Span.{Span}
use Rattle.es5_ast.specs.declared.operators.AssignOperator5.{AssignOperator5}
use Rattle.es5_ast.specs.declared.operators.BinaryOperator5.{BinaryOperator5}
use Rattle.es5_ast.specs.declared.operators.UpdateOperator5.{UpdateOperator5}
use Rattle.es5_ast.specs.declared.operators.Key5.{Key5}
use Rattle.es5_ast.specs.declared.tree.Element5.{Element5}
use Rattle.es5_ast.specs.declared.tree.Element5.TheVariants as element
use Rattle.es5_ast.specs.declared.tree.Expr5.{Expr5, out-Expr5}
use Rattle.es5_ast.specs.declared.tree.Expr5.TheVariants as expr
use Rattle.es5_ast.specs.declared.tree.Property5.{Property5}
use Rattle.es5_ast.specs.declared.tree.Property5.TheVariants as property
use Rattle.es5_ast.specs.declared.tree.Operand5.{Operand5, out-Operand5}
use Rattle.es5_ast.specs.declared.tree.Element5.TheOpen as layer
use Rattle.es5_ast.specs.declared.tree.Element5.TheOpen.{Expr5-F}
use Rattle.es5_ast.specs.Grammar.{binary_level}
use Rattle.es5_ast.specs.Lexical.{is_one_of}
use Rattle.es5_ast.specs.Early as e
use Rattle.es5_ast.specs.Early.{Held5, Inside, Pair5, Target5, NameTarget, PropertyTarget, NoTarget, Sort5, Data}
use Rattle.es5_printable.specs.Printable as p
use Rattle.es5_printable.specs.Printable.{element_fit, expr_fit, property_fit, operand_fit}
use Rattle.emission_rules.specs.Nodes as n
use Rattle.emission_rules.specs.Nodes.{nowhere}
use Rattle.pass_rules.proofs.pass_laws.Within.{left, right, both}
use Rattle.pass_rules.proofs.pass_laws.YieldMarks.{by_test}
use Rattle.emission_laws.proofs.Layers.{Open, element_found, expr_found, property_found, operand_found, fit_operand-roll, found_operand-roll, fit_operand-out, fit_element-roll, found_element-roll, fit_property-roll, found_property-roll}
use Rattle.emission_laws.proofs.Good.{Good, Goods, Out, Top, Plain, GoodName, none, first_none, second_none, all_one, joined_one, when_not, good_by, good_out, goods_fit, goods_pairs, plain_by, top_by, target_by, named_plain, keys_at}

-- ## Operators of one level (11.5 to 11.11)

operand_fits : (o : BinaryOperator5) (y : Expr5) → Good y → (operand_fit (n.operand o y)).fits ≡ true
operand_fits o y h = ap (λ v. v.fits) (fit_operand-roll (record { operator = o; value = y })) ∙ h.fits

operand_level : (o : BinaryOperator5) (y : Expr5) → (operand_fit (n.operand o y)).level ≡ binary_level o
operand_level o y = ap (λ v. v.level) (fit_operand-roll (record { operator = o; value = y }))

operand_pairs : (o : BinaryOperator5) (y : Expr5) → Good y → operand_found (n.operand o y) true ≡ []
operand_pairs o y h = ap (λ f. f true) (found_operand-roll (record { operator = o; value = y })) ∙ h.pairs

level_is : (o : Operand5) → (operand_fit o).level ≡ binary_level (out-Operand5 o).operator
level_is o = ap (λ v. v.level) (fit_operand-out o)

same_level : (l m : ℕ) → l ≡ m → nat_eq l m ≡ true
same_level l m h = eq-eqb l m h

one_operand : (o : BinaryOperator5) (x y : Expr5) → Good x → Good y → Plain (expr.Binary nowhere x (n.operand o y ∷ []))
one_operand o x y h k = plain_by _ (layer.Binary nowhere x (n.operand o y ∷ [])) (expr.rolls-Binary nowhere x (n.operand o y ∷ []))
    (both h.fits (both (both (operand_fits o y k) (same_level _ _ refl)) refl)) (none h.pairs (none (operand_pairs o y k) refl)) refl refl

operands_one : (os : List Operand5) (o : Operand5) → p.operands_fit (map operand_fit os) ≡ true → (operand_fit o).fits ≡ true → n.first_level os ≡ (operand_fit o).level → p.operands_fit (map operand_fit (os ++ o ∷ [])) ≡ true
operands_one [] o h k l = absurd (false≢true h)
operands_one (a ∷ os) o h k l = all_one operand_fit (λ q. q.fits && nat_eq q.level (operand_fit a).level) (a ∷ os) o h (both k (same_level _ _ (sym l ∙ sym (level_is a))))

operated_by : (x : Expr5) (o : BinaryOperator5) (y : Expr5) (z : Open Expr5-F) → Good x → Out z → Good y → Plain (n.operated_layer x o y z)
operated_by x o y (layer.Binary span first rest) h u k = by_test Plain (nat_eq (n.first_level rest) (binary_level o)) (expr.Binary span first (rest ++ n.operand o y ∷ [])) (expr.Binary nowhere x (n.operand o y ∷ []))
    (λ t. plain_by _ (layer.Binary span first (rest ++ n.operand o y ∷ [])) (expr.rolls-Binary span first (rest ++ n.operand o y ∷ []))
    (both (left _ _ u.0) (operands_one rest (n.operand o y) (right _ _ u.0) (operand_fits o y k) (eqb-true _ _ t ∙ sym (operand_level o y))))
    (none (first_none _ _ u.1) (joined_one operand_found (λ f. f true) rest (n.operand o y) (second_none _ _ u.1) (operand_pairs o y k))) refl refl)
    (λ t. one_operand o x y h k)
operated_by x o y z h u k = one_operand o x y h k

pub operated_plain : (x : Expr5) (o : BinaryOperator5) (y : Expr5) → Good x → Good y → Plain (n.operated x o y)
unfolding n.operated
operated_plain x o y h k = operated_by x o y (out-Expr5 x) h (good_out x h) k

-- ## Sequences (11.14)

parts_one : (xs : List Expr5) (y : Expr5) → p.parts_fit (map expr_fit xs) ≡ true → Good y → p.parts_fit (map expr_fit (xs ++ y ∷ [])) ≡ true
parts_one [] y h k = absurd (false≢true h)
parts_one (x ∷ xs) y h k = all_one expr_fit (λ q. q.fits) (x ∷ xs) y h k.fits

pub sequence_plain : (x y : Expr5) → Good x → Good y → Plain (expr.Sequence nowhere x (y ∷ []))
sequence_plain x y h k = plain_by _ (layer.Sequence nowhere x (y ∷ [])) (expr.rolls-Sequence nowhere x (y ∷ [])) (both h.fits (both k.fits refl)) (none h.pairs (none k.pairs refl)) refl refl

then_by : (x y : Expr5) (z : Open Expr5-F) → Good x → Out z → Good y → Plain (n.then_layer x y z)
then_by x y (layer.Sequence span first rest) h u k = plain_by _ (layer.Sequence span first (rest ++ y ∷ [])) (expr.rolls-Sequence span first (rest ++ y ∷ []))
    (both (left _ _ u.0) (parts_one rest y (right _ _ u.0) k)) (none (first_none _ _ u.1) (joined_one expr_found (λ f. f.pairs true) rest y (second_none _ _ u.1) k.pairs)) refl refl
then_by x y z h u k = sequence_plain x y h k

pub then_plain : (x y : Expr5) → Good x → Good y → Plain (n.then x y)
unfolding n.then
then_plain x y h k = then_by x y (out-Expr5 x) h (good_out x h) k

-- ## Assignments (11.13), updates (11.3, 11.4), `? :` (11.12) and `new` (11.2.2)

pub assigned_plain : (o : AssignOperator5) (x y : Expr5) → Good x → Good y → e.assigned_target (expr_found x).target (expr_found x).begin ≡ [] → Plain (n.assigned o x y)
assigned_plain o x y h k t = plain_by _ (layer.Assign nowhere o x y) (expr.rolls-Assign nowhere o x y) (both h.fits k.fits) (none (none t h.pairs) k.pairs) refl refl

pub property_target : (x : Expr5) → (expr_found x).target ≡ PropertyTarget → e.assigned_target (expr_found x).target (expr_found x).begin ≡ []
property_target x h = ap (λ t. e.assigned_target t (expr_found x).begin) h

pub name_target : (t : List ℕ) → GoodName t → e.assigned_target (expr_found (n.name t)).target (expr_found (n.name t)).begin ≡ []
name_target t h = ap (λ u. e.assigned_target u (expr_found (n.name t)).begin) (target_by _ (layer.Name nowhere t) (expr.rolls-Name nowhere t)) ∙ when_not _ (e.F 2) _ h.free

pub stored_plain : (t : List ℕ) (y : Expr5) → GoodName t → Good y → Plain (n.stored (n.name t) y)
stored_plain t y h k = assigned_plain _ (n.name t) y (named_plain t h).good k (name_target t h)

pub update_plain : (o : UpdateOperator5) (x : Expr5) → Good x → e.assigned_target (expr_found x).target (expr_found x).begin ≡ [] → Plain (expr.Update nowhere o x)
update_plain o x h t = plain_by _ (layer.Update nowhere o x) (expr.rolls-Update nowhere o x) h.fits (none t h.pairs) refl refl

pub conditional_plain : (x y z : Expr5) → Good x → Good y → Good z → Plain (expr.Conditional nowhere x y z)
conditional_plain x y z h k l = plain_by _ (layer.Conditional nowhere x y z) (expr.rolls-Conditional nowhere x y z) (both (both h.fits k.fits) l.fits) (none (none h.pairs k.pairs) l.pairs) refl refl

pub new_plain : (x : Expr5) (ys : List Expr5) → Good x → Goods ys → Plain (expr.New nowhere x ys)
new_plain x ys h k = plain_by _ (layer.New nowhere x ys) (expr.rolls-New nowhere x ys) (both h.fits (goods_fit ys k)) (none h.pairs (goods_pairs ys k)) refl refl

-- ## Elements and properties

element_fits : (y : Expr5) → Good y → element_fit (element.Element y) ≡ true
element_fits y h = ap element_fit (sym (element.rolls-Element y)) ∙ fit_element-roll (layer.Element y) ∙ h.fits

element_pairs : (y : Expr5) → Good y → element_found (element.Element y) true ≡ []
element_pairs y h = ap (λ v. element_found v true) (sym (element.rolls-Element y)) ∙ ap (λ f. f true) (found_element-roll (layer.Element y)) ∙ h.pairs

-- an element more of a literal
pub elements_plain : (span : Span) (es : List Element5) (y : Expr5) → Out (layer.ArrayList span es) → Good y → Plain (expr.ArrayList span (es ++ element.Element y ∷ []))
elements_plain span es y u k = plain_by _ (layer.ArrayList span (es ++ element.Element y ∷ [])) (expr.rolls-ArrayList span (es ++ element.Element y ∷ []))
    (all_one element_fit (λ b. b) es (element.Element y) u.0 (element_fits y k)) (joined_one element_found (λ f. f true) es (element.Element y) u.1 (element_pairs y k)) refl refl

property_fits : (k : Key5) (y : Expr5) → p.is_key k ≡ true → Good y → property_fit (n.plain k y) ≡ true
property_fits k y i h = ap property_fit (sym (property.rolls-Plain nowhere _ y)) ∙ fit_property-roll (layer.Plain nowhere _ y) ∙ both i h.fits

pub property_is : (k : Key5) (y : Expr5) → property_found (n.plain k y) ≡ e.property_step (layer.Plain nowhere (record { span = nowhere; key = k }) (expr_found y))
property_is k y = ap property_found (sym (property.rolls-Plain nowhere _ y)) ∙ found_property-roll (layer.Plain nowhere _ y)

abbrev names_of : List Held5 → List (List ℕ)
names_of hs = map (λ h. h.name) hs

or_both : (a b : Bool) → a ≡ false → b ≡ false → (a || b) ≡ false
or_both a b h k = ap (λ c. c || b) h ∙ k

or_left : (a b : Bool) → (a || b) ≡ false → a ≡ false
or_left true b h = h
or_left false b h = refl

or_right : (a b : Bool) → (a || b) ≡ false → b ≡ false
or_right true b h = absurd (false≢true (sym h))
or_right false b h = h

and_no : (a b : Bool) → a ≡ false → (a && b) ≡ false
and_no a b h = ap (λ c. c && b) h

no_clash : (k : List ℕ) (sort : Sort5) (seen : List Held5) → is_one_of k (names_of seen) ≡ false → list_any (λ (q : Held5). bytes_eq k q.name && e.clashes q.sort sort) seen ≡ false
no_clash k sort [] h = refl
no_clash k sort (q ∷ seen) h = or_both _ _ (and_no (bytes_eq k q.name) _ (or_left _ _ h)) (no_clash k sort seen (or_right (bytes_eq k q.name) _ h))

seen_more : (k j : List ℕ) (seen ps : List (List ℕ)) → is_one_of k seen ≡ false → is_one_of k (j ∷ ps) ≡ false → is_one_of k (j ∷ seen) ≡ false
seen_more k j seen ps h i = or_both _ _ (or_left _ _ i) h

properties_one : (seen ps : List Held5) (q : Held5) → e.property_pairs seen ps true ≡ [] → is_one_of q.name (names_of seen) ≡ false → is_one_of q.name (names_of ps) ≡ false → q.pairs true ≡ [] → e.property_pairs seen (ps ++ q ∷ []) true ≡ []
properties_one seen [] q h i j k = none (none (when_not _ (e.F 4) q.at (no_clash q.name q.sort seen i)) k) refl
properties_one seen (r ∷ ps) q h i j k =
    none (first_none _ _ h) (properties_one (r ∷ seen) ps q (second_none (e.when _ _ _ ++ r.pairs true) _ h) (or_both _ _ (or_left _ _ j) i) (or_right (bytes_eq q.name r.name) _ j) k)

map_one : {A B : Type 0} (f : A → B) (xs : List A) (y : A) → map f (xs ++ y ∷ []) ≡ map f xs ++ f y ∷ []
map_one f [] y = refl
map_one f (x ∷ xs) y = ap (λ zs. f x ∷ zs) (map_one f xs y)

names_same : (ps : List Property5) → names_of (map property_found ps) ≡ map (λ q. (property_found q).name) ps
names_same [] = refl
names_same (q ∷ ps) = ap (λ zs. (property_found q).name ∷ zs) (names_same ps)

keys_one : (k : List ℕ) (js : List (List ℕ)) (j : List ℕ) → is_one_of k js ≡ false → bytes_eq k j ≡ false → is_one_of k (js ++ j ∷ []) ≡ false
keys_one k [] j h i = or_both _ _ i refl
keys_one k (a ∷ js) j h i = or_both _ _ (or_left _ _ h) (keys_one k js j (or_right (bytes_eq k a) _ h) i)

-- a property more of a literal, whose key is new
pub properties_good : (span : Span) (ps : List Property5) (k : Key5) (y : Expr5) → Out (layer.ObjectList span ps) → is_one_of (e.key_text k) (keys_at (layer.ObjectList span ps)) ≡ false → p.is_key k ≡ true → Good y
    → Good (expr.ObjectList span (ps ++ n.plain k y ∷ []))
properties_good span ps k y u i t h =
    let q = n.plain k y in let is = property_is k y in
    good_by _ (layer.ObjectList span (ps ++ q ∷ [])) (expr.rolls-ObjectList span (ps ++ q ∷ []))
    (all_one property_fit (λ b. b) ps q u.0 (property_fits k y t h))
    (ap (λ hs. e.property_pairs [] hs true) (map_one property_found ps q) ∙ properties_one [] (map property_found ps) (property_found q) u.1 refl
    (ap (λ (v : Held5). is_one_of v.name (names_of (map property_found ps))) is ∙ ap (λ js. is_one_of (e.key_text k) js) (names_same ps) ∙ i) (ap (λ (v : Held5). v.pairs true) is ∙ h.pairs))

pub properties_top : (span : Span) (ps : List Property5) (k : Key5) (y : Expr5) (m : ℕ) (ks : List (List ℕ)) → ((j : List ℕ) → is_one_of j ks ≡ false → is_one_of j (keys_at (layer.ObjectList span ps)) ≡ false)
    → Top m (e.key_text k ∷ ks) (expr.ObjectList span (ps ++ n.plain k y ∷ []))
properties_top span ps k y m ks h =
    let q = n.plain k y in
    top_by m (e.key_text k ∷ ks) _ (layer.ObjectList span (ps ++ q ∷ [])) (expr.rolls-ObjectList span (ps ++ q ∷ [])) (omega arith)
    (λ j i. ap (is_one_of j) (map_one (λ v. (property_found v).name) ps q) ∙ keys_one j (keys_at (layer.ObjectList span ps)) (property_found q).name (h j (or_right (bytes_eq j (e.key_text k)) _ i))
    (ap (λ (v : Held5). bytes_eq j v.name) (property_is k y) ∙ or_left _ _ i))
