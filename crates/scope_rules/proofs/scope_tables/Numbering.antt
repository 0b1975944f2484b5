-- Numbers of bindings, as one more is bound.
use Rattle.std.proofs.Common.{◌≡◌, ℕ, ◌+◌, ◌&&◌, nat_eq, Bool, true, false, cond, List, [], ◌∷◌, ◌++◌, length, Option, Some, None, refl, sym, ap, ◌∙◌, arith}
use Rattle.std.specs.Str.{bytes_eq}
use Rattle.std.specs.Cmp.{nat_eq_equiv, unsigned_Decides}
use Rattle.std.specs.Cmp.Lexicographic.{bytes_decides, nat_list_eq_equiv}
use Rattle.std.specs.HashMap.{UpdatesBy}
use Rattle.scope_rules.specs.declared.scope_tables.binding.Binding.{Binding}
use Rattle.scope_rules.specs.scope_tables.Numbered.{Key, Numbered, Table, number_in}
use Rattle.scope_rules.specs.scope_tables.Scoping.{is_of, number_from, number_of}

abbrev pub first_of : Option ℕ → Option ℕ → Option ℕ
first_of None y = y
first_of (Some x) y = Some x

first-cond : (t : Bool) (k : ℕ) (old new : Option ℕ) → first_of (cond t (Some k) old) new ≡ cond t (Some k) (first_of old new)
first-cond true k old new = refl
first-cond false k old new = refl

-- the number that one binding more adds
pub number-push : (k scope : ℕ) (name : List ℕ) (bs : List Binding) (b : Binding) → number_from k scope name (bs ++ b ∷ []) ≡ first_of (number_from k scope name bs) (cond (is_of scope name b) (Some (k + length bs)) None)
number-push k scope name [] b = ap (λ n. cond (is_of scope name b) (Some n) None) (omega arith)
number-push k scope name (x ∷ bs) b =
    ap (λ rest. cond (is_of scope name x) (Some k) rest)
    (number-push (k + 1) scope name bs b ∙ ap (λ n. first_of (number_from (k + 1) scope name bs) (cond (is_of scope name b) (Some n) None)) (omega arith))
    ∙ sym (first-cond (is_of scope name x) k (number_from (k + 1) scope name bs) (cond (is_of scope name b) (Some (k + length (x ∷ bs))) None))

both-true : (x y : Bool) → (x && y) ≡ true → (x ≡ true) × (y ≡ true)
both-true true y e = (refl, e)
both-true false y e = absurd (cc)

meets : (t : Bool) (number : ℕ) (old : Option ℕ) → (t ≡ true → old ≡ None) → cond t (Some number) old ≡ first_of old (cond t (Some number) None)
meets true number old h = ap (λ o. first_of o (Some number)) (sym (h refl))
meets false number None h = refl
meets false number (Some k) h = refl

abbrev pub same_key : Key → Key → Bool
same_key x y = nat_eq x.0 y.0 && bytes_eq x.1.now y.1.now

-- what is found at a scope and a name, after a number is put at a key
pub number-put : (old new : Table) (key : Key) (number : Option ℕ) → UpdatesBy same_key (same_key key) old new number → (scope : ℕ) (name : List ℕ) → number_in new scope name ≡ cond (nat_eq key.0 scope && bytes_eq key.1.now name) number (number_in old scope name)
number-put old new key number updates scope name = updates.0 (scope, record key.1 { now = name })

-- after a binding is pushed that isn't there yet, and its number is put at its scope and name
pub numbered-push : (old new : ℕ → List ℕ → Option ℕ) (bs : List Binding) (b : Binding) → Numbered old bs → number_of b.scope b.name bs ≡ None
    → ((scope : ℕ) (name : List ℕ) → new scope name ≡ cond (nat_eq b.scope scope && bytes_eq b.name name) (Some (length bs)) (old scope name)) → Numbered new (bs ++ b ∷ [])
numbered-push old new bs b before absent puts scope name =
    let test : Bool = is_of scope name b in
    let scopes : nat_eq b.scope scope ≡ nat_eq scope b.scope = nat_eq_equiv.symm b.scope scope in
    let names : bytes_eq b.name name ≡ bytes_eq name b.name = nat_list_eq_equiv.symm b.name name in
    let tests : (nat_eq b.scope scope && bytes_eq b.name name) ≡ test = ap (λ (t : Bool). t && bytes_eq b.name name) scopes ∙ ap (λ (t : Bool). nat_eq scope b.scope && t) names in
    let none : test ≡ true → number_of scope name bs ≡ None = λ yes.
    let parts = both-true (nat_eq scope b.scope) (bytes_eq name b.name) yes in
    ap (λ (n : ℕ). number_of n name bs) ((unsigned_Decides scope b.scope).0 parts.0) ∙ ap (λ (n : List ℕ). number_of b.scope n bs) ((bytes_decides name b.name).0 parts.1) ∙ absent
    in
    let count : length bs ≡ 0 + length bs = omega arith in
    puts scope name
    ∙ ap (λ (t : Bool). cond t (Some (length bs)) (old scope name)) tests
    ∙ ap (λ (o : Option ℕ). cond test (Some (length bs)) o) (before scope name)
    ∙ meets test (length bs) (number_of scope name bs) none
    ∙ ap (λ (n : ℕ). first_of (number_of scope name bs) (cond test (Some n) None)) count
    ∙ sym (number-push 0 scope name bs b)
