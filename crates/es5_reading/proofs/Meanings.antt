-- What the tests of single tokens mean in the grammar's terms.
use Rattle.std.proofs.Common.{◌≡◌, ◌⊎◌, inl, inr, ℕ, Bool, true, false, ◌&&◌, ◌||◌, not, cond, List, [], ◌∷◌, Option, Some, None, refl, ap, subst}
use Rattle.std.specs.Prelude.{◌==◌, codes}
use Rattle.std.specs.Str.{bytes_eq}
use Rattle.std.proofs.Common.{eqb-true}
use Rattle.std.proofs.lemmas.Slice.Eq.{bytes_eq-Decides}
use Rattle.es5_ast.specs.declared.operators.UnaryOperator5.{UnaryOperator5}
use Rattle.es5_ast.specs.declared.operators.UpdateOperator5.{UpdateOperator5}
use Rattle.es5_ast.specs.declared.operators.UpdateOperator5.TheVariants.{IncrementBefore, DecrementBefore, IncrementAfter, DecrementAfter}
use Rattle.es5_ast.specs.declared.operators.BinaryOperator5.{BinaryOperator5}
use Rattle.es5_ast.specs.declared.operators.AssignOperator5.{AssignOperator5}
use Rattle.es5_ast.specs.declared.operators.Literal5.{Literal5}
use Rattle.es5_ast.specs.declared.operators.Literal5.TheVariants as literals
use Rattle.es5_ast.specs.declared.operators.Key5.{Key5}
use Rattle.es5_ast.specs.Lexical.{Kind5, Word, Integer, Text, Punctuator, Inserted, Token5}
use Rattle.es5_ast.specs.Grammar.{IsWord, IsMark, IsEnd, is_word, is_mark, ends, is_identifier, is_in, is_before, unary_kind, update_kind, assign_kind, binary_kind, binary_level, literal_kind, key_kind}
use Rattle.es5_reading.specs.Parser.{kept_if, mark, word, ending}
use Rattle.es5_reading.specs.Expressions.{name_if, any_name, any_name_in, free_name, free_name_in, same_kind, look_up, literal_word, literal_in, literal_at, key_in, key_at, accessor_word, accessor_in, accessor_at, accessor_name, unary_operators, unary_at, before_at, unless, after_at, assign_operators, assign_at, binary_operators, operator_of_level, binary_at}

pub same_bytes : (a b : List ℕ) → bytes_eq a b ≡ true → a ≡ b
same_bytes a b h = (bytes_eq-Decides a b).0 h

pub bytes_eq-refl : (a : List ℕ) → bytes_eq a a ≡ true
bytes_eq-refl a = (bytes_eq-Decides a a).1 refl

pub or_false : (a b : Bool) → (a || b) ≡ false → (a ≡ false) × (b ≡ false)
or_false true b h = absurd (cc)
or_false false b h = (refl, h)

pub not_true : (a : Bool) → not a ≡ true → a ≡ false
not_true true h = absurd (cc)
not_true false h = refl

pub not_false : (a : Bool) → not a ≡ false → a ≡ true
not_false true h = refl
not_false false h = absurd (cc)

pub some_same : {A : Type 0} {x y : A} → Some x ≡ Some y → x ≡ y
some_same {A = A} {x = x} h = ap (λ o. unwrap o) h
  where
    unwrap : Option A → A
    unwrap (Some z) = z
    unwrap None = x

kept-true : (b : Bool) (t u : Token5) → kept_if b t ≡ Some u → b ≡ true
kept-true true t u h = refl
kept-true false t u h = absurd (cc)

kept-none : (b : Bool) (t : Token5) → kept_if b t ≡ None → b ≡ false
kept-none true t h = absurd (cc)
kept-none false t h = refl

pub mark-is : (p : List ℕ) (k : Kind5) → is_mark p k ≡ true → k ≡ Punctuator p
mark-is p (Punctuator q) h = ap (λ b. Punctuator b) (same_bytes q p h)
mark-is p k h = absurd (cc)

pub word-is : (w : List ℕ) (k : Kind5) → is_word w k ≡ true → k ≡ Word w
word-is w (Word v) h = ap (λ b. Word b) (same_bytes v w h)
word-is w k h = absurd (cc)

pub mark-means : (p : List ℕ) (t u : Token5) → mark p t ≡ Some u → IsMark p t
mark-means p t u h = mark-is p t.kind (kept-true (is_mark p t.kind) t u h)

pub word-means : (w : List ℕ) (t u : Token5) → word w t ≡ Some u → IsWord w t
word-means w t u h = word-is w t.kind (kept-true (is_word w t.kind) t u h)

pub ending-means : (t u : Token5) → ending t ≡ Some u → IsEnd t
ending-means t u h = kept-true (ends t.kind) t u h

pub mark-misses : (p : List ℕ) (t : Token5) → mark p t ≡ None → is_mark p t.kind ≡ false
mark-misses p t h = kept-none (is_mark p t.kind) t h

pub word-misses : (w : List ℕ) (t : Token5) → word w t ≡ None → is_word w t.kind ≡ false
word-misses w t h = kept-none (is_word w t.kind) t h

-- ## Names, literals, keys

any-name-is : (k : Kind5) (name : List ℕ) → any_name_in k ≡ Some name → k ≡ Word name
any-name-is (Word v) name h = ap (λ b. Word b) (some_same h)
any-name-is k name h = absurd (cc)

pub any-name-means : (name : List ℕ) (t : Token5) → any_name t ≡ Some name → IsWord name t
any-name-means name t h = any-name-is t.kind name h

name-if-is : (b : Bool) (v name : List ℕ) → name_if b v ≡ Some name → (v ≡ name) × (b ≡ true)
name-if-is true v name h = (some_same h, refl)
name-if-is false v name h = absurd (cc)

free-name-is : (k : Kind5) (name : List ℕ) → free_name_in k ≡ Some name → (k ≡ Word name) × (is_identifier name ≡ true)
free-name-is (Word v) name h =
    let e = name-if-is (is_identifier v) v name h in
    (ap (λ b. Word b) e.0, subst (λ w. is_identifier w ≡ true) e.0 e.1)
free-name-is k name h = absurd (cc)

pub free-name-means : (name : List ℕ) (t : Token5) → free_name t ≡ Some name → IsWord name t × (is_identifier name ≡ true)
free-name-means name t h = free-name-is t.kind name h

cond-some : {A : Type 0} (b : Bool) (x y : A) (o : Option A) → cond b (Some x) o ≡ Some y → ((b ≡ true) × (x ≡ y)) ⊎ ((b ≡ false) × (o ≡ Some y))
cond-some true x y o h = inl (refl, some_same h)
cond-some false x y o h = inr (refl, h)

literal-word-is : (v : List ℕ) (value : Literal5) → literal_word v ≡ Some value → Word v ≡ literal_kind value
literal-word-is v value h = elim (cond-some (bytes_eq v (codes "null")) literals.Null value (cond (bytes_eq v (codes "true")) (Some (literals.Truth true)) (cond (bytes_eq v (codes "false")) (Some (literals.Truth false)) None)) h) [
  | inl a ↦ subst (λ l. Word v ≡ literal_kind l) a.1 (ap (λ b. Word b) (same_bytes v (codes "null") a.0))
  | inr a ↦ elim (cond-some (bytes_eq v (codes "true")) (literals.Truth true) value (cond (bytes_eq v (codes "false")) (Some (literals.Truth false)) None) a.1) [
    | inl b ↦ subst (λ l. Word v ≡ literal_kind l) b.1 (ap (λ b. Word b) (same_bytes v (codes "true") b.0))
    | inr b ↦ elim (cond-some (bytes_eq v (codes "false")) (literals.Truth false) value None b.1) [
      | inl c ↦ subst (λ l. Word v ≡ literal_kind l) c.1 (ap (λ b. Word b) (same_bytes v (codes "false") c.0))
      | inr c ↦ absurd (cc)
    ]
  ]
]

literal-is : (k : Kind5) (value : Literal5) → literal_in k ≡ Some value → k ≡ literal_kind value
literal-is (Word v) value h = literal-word-is v value h
literal-is (Integer n) value h = subst (λ l. Integer n ≡ literal_kind l) (some_same h) refl
literal-is (Text us) value h = subst (λ l. Text us ≡ literal_kind l) (some_same h) refl
literal-is (Punctuator p) value h = absurd (cc)
literal-is Inserted value h = absurd (cc)

pub literal-means : (value : Literal5) (t : Token5) → literal_at t ≡ Some value → t.kind ≡ literal_kind value
literal-means value t h = literal-is t.kind value h

key-is : (k : Kind5) (value : Key5) → key_in k ≡ Some value → k ≡ key_kind value
key-is (Word v) value h = subst (λ l. Word v ≡ key_kind l) (some_same h) refl
key-is (Integer n) value h = subst (λ l. Integer n ≡ key_kind l) (some_same h) refl
key-is (Text us) value h = subst (λ l. Text us ≡ key_kind l) (some_same h) refl
key-is (Punctuator p) value h = absurd (cc)
key-is Inserted value h = absurd (cc)

pub key-means : (value : Key5) (t : Token5) → key_at t ≡ Some value → t.kind ≡ key_kind value
key-means value t h = key-is t.kind value h

accessor-word-is : (v : List ℕ) (setter : Bool) → accessor_word v ≡ Some setter → v ≡ accessor_name setter
accessor-word-is v setter h = elim (cond-some (bytes_eq v (codes "get")) false setter (cond (bytes_eq v (codes "set")) (Some true) None) h) [
  | inl a ↦ subst (λ b. v ≡ accessor_name b) a.1 (same_bytes v (codes "get") a.0)
  | inr a ↦ elim (cond-some (bytes_eq v (codes "set")) true setter None a.1) [
    | inl b ↦ subst (λ b. v ≡ accessor_name b) b.1 (same_bytes v (codes "set") b.0)
    | inr b ↦ absurd (cc)
  ]
]

accessor-is : (k : Kind5) (setter : Bool) → accessor_in k ≡ Some setter → k ≡ Word (accessor_name setter)
accessor-is (Word v) setter h = ap (λ b. Word b) (accessor-word-is v setter h)
accessor-is k setter h = absurd (cc)

pub accessor-means : (setter : Bool) (t : Token5) → accessor_at t ≡ Some setter → IsWord (accessor_name setter) t
accessor-means setter t h = accessor-is t.kind setter h

-- ## Operators

same-kind-is : (a k : Kind5) → same_kind a k ≡ true → k ≡ a
same-kind-is (Word v) k h = word-is v k h
same-kind-is (Punctuator p) k h = mark-is p k h
same-kind-is a k h = absurd (cc)

look-up-is : {A : Type 0} (f : A → Kind5) (xs : List A) (k : Kind5) (x : A) → look_up f xs k ≡ Some x → k ≡ f x
look-up-is f [] k x h = absurd (cc)
look-up-is f (y ∷ ys) k x h = elim (cond-some (same_kind (f y) k) y x (look_up f ys k) h) [
  | inl a ↦ subst (λ z. k ≡ f z) a.1 (same-kind-is (f y) k a.0)
  | inr a ↦ look-up-is f ys k x a.1
]

pub unary-means : (op : UnaryOperator5) (t : Token5) → unary_at t ≡ Some op → t.kind ≡ unary_kind op
unary-means op t h = look-up-is unary_kind unary_operators t.kind op h

pub assign-means : (op : AssignOperator5) (t : Token5) → assign_at t ≡ Some op → t.kind ≡ assign_kind op
assign-means op t h = look-up-is assign_kind assign_operators t.kind op h

two-are : (x y : UpdateOperator5) (b : Bool) → is_before x ≡ b → is_before y ≡ b → (k : Kind5) (op : UpdateOperator5) → look_up update_kind (x ∷ y ∷ []) k ≡ Some op → is_before op ≡ b
two-are x y b hx hy k op h = elim (cond-some (same_kind (update_kind x) k) x op (look_up update_kind (y ∷ []) k) h) [
  | inl a ↦ subst (λ z. is_before z ≡ b) a.1 hx
  | inr a ↦ elim (cond-some (same_kind (update_kind y) k) y op None a.1) [
    | inl e ↦ subst (λ z. is_before z ≡ b) e.1 hy
    | inr e ↦ absurd (cc)
  ]
]

pub before-means : (op : UpdateOperator5) (t : Token5) → before_at t ≡ Some op → (t.kind ≡ update_kind op) × (is_before op ≡ true)
before-means op t h = (look-up-is update_kind (IncrementBefore ∷ DecrementBefore ∷ []) t.kind op h, two-are IncrementBefore DecrementBefore true refl refl t.kind op h)

pub unless-is : {A : Type 0} (b : Bool) (o : Option A) (x : A) → unless b o ≡ Some x → (b ≡ false) × (o ≡ Some x)
unless-is true o x h = absurd (cc)
unless-is false o x h = (refl, h)

pub after-means : (op : UpdateOperator5) (t : Token5) → after_at t ≡ Some op → (t.kind ≡ update_kind op) × (is_before op ≡ false) × (t.after_line ≡ false)
after-means op t h =
    let e = unless-is t.after_line (look_up update_kind (IncrementAfter ∷ DecrementAfter ∷ []) t.kind) op h in
    (look-up-is update_kind (IncrementAfter ∷ DecrementAfter ∷ []) t.kind op e.1, two-are IncrementAfter DecrementAfter false refl refl t.kind op e.1, e.0)

level-is : (no_in : Bool) (level : ℕ) (o : Option BinaryOperator5) (op : BinaryOperator5) → operator_of_level no_in level o ≡ Some op → (o ≡ Some op) × (binary_level op ≡ level) × ((no_in && is_in op) ≡ false)
level-is no_in level None op h = absurd (cc)
level-is no_in level (Some x) op h =
    let e = unless-is (not (binary_level x == level) || (no_in && is_in x)) (Some x) op h in
    let f = or_false (not (binary_level x == level)) (no_in && is_in x) e.0 in
    let same = some_same e.1 in
    (e.1, subst (λ z. binary_level z ≡ level) same (eqb-true (binary_level x) level (not_false (binary_level x == level) f.0)), subst (λ z. (no_in && is_in z) ≡ false) same f.1)

pub binary-means : (no_in : Bool) (level : ℕ) (op : BinaryOperator5) (t : Token5) → binary_at no_in level t ≡ Some op → (t.kind ≡ binary_kind op) × (binary_level op ≡ level) × ((no_in && is_in op) ≡ false)
binary-means no_in level op t h =
    let e = level-is no_in level (look_up binary_kind binary_operators t.kind) op h in
    (look-up-is binary_kind binary_operators t.kind op e.0, e.1, e.2)
