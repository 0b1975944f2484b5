-- What both environment records hold for the names in scope.
use Rattle.std.proofs.Common.{◌≡◌, ℕ, Bool, true, false, List, [], ◌∷◌, ◌++◌, Some, cond, sym, ◌∙◌, ap, ◌⊎◌, inl, inr}
use Rattle.std.specs.Str.{bytes_eq}
use Rattle.es_outside.specs.declared.primitive.Primitive.{Primitive}
use Rattle.first_forms.specs.Names.{is_one_of}
use Rattle.first_forms.specs.WellFormed.{Scope, with_declared}
use Rattle.meaning6.specs.State.{Initialized, HostFunction, Entry, binding_in}
use Rattle.first_target.specs.State.{PrimitiveValue, HostFunction as HostFunction5, Entry5, value_in}
use Rattle.first_script.proofs.Names.{bytes_eq-refl, bytes_eq-false, name_cases, is_one_of-more, true_not_false}
use Rattle.std.proofs.lemmas.List.{append_cancel_right}

-- a declared name's value, on both sides
pub record HasValue (suffix : List ℕ) (entries : List Entry) (entries5 : List Entry5) (name : List ℕ) : Type 0 where
  pub value : Primitive
  pub mutable : Bool
  pub source : binding_in entries name ≡ Some (Initialized value mutable)
  pub target : value_in entries5 (name ++ suffix) ≡ Some (PrimitiveValue value)

-- an imported name's host, on both sides
pub record HasHost (entries : List Entry) (entries5 : List Entry5) (name : List ℕ) : Type 0 where
  pub host : ℕ
  pub source : binding_in entries name ≡ Some (HostFunction host)
  pub target : value_in entries5 name ≡ Some (HostFunction5 host)

-- no imported name is a declared one with the suffix
abbrev pub IsApart : List ℕ → Scope → Type 0
IsApart suffix s = (x f : List ℕ) → is_one_of f s.imported ≡ true → x ++ suffix ≡ f → ⊥

pub record Agrees (suffix : List ℕ) (s : Scope) (entries : List Entry) (entries5 : List Entry5) : Type 0 where
  pub values : (name : List ℕ) → is_one_of name s.declared ≡ true → HasValue suffix entries entries5 name
  pub hosts : (name : List ℕ) → is_one_of name s.imported ≡ true → HasHost entries entries5 name
  pub apart : IsApart suffix s

-- look-ups past an entry of another name
source_past : (e : Entry) (entries : List Entry) (name : List ℕ) → bytes_eq e.name name ≡ false → binding_in (e ∷ entries) name ≡ binding_in entries name
source_past e entries name h = ap (λ b. cond b (Some e.binding) (binding_in entries name)) h

source_here : (e : Entry) (entries : List Entry) (name : List ℕ) → bytes_eq e.name name ≡ true → binding_in (e ∷ entries) name ≡ Some e.binding
source_here e entries name h = ap (λ b. cond b (Some e.binding) (binding_in entries name)) h

target_past : (e : Entry5) (entries : List Entry5) (name : List ℕ) → bytes_eq e.name name ≡ false → value_in (e ∷ entries) name ≡ value_in entries name
target_past e entries name h = ap (λ b. cond b (Some e.value) (value_in entries name)) h

target_here : (e : Entry5) (entries : List Entry5) (name : List ℕ) → bytes_eq e.name name ≡ true → value_in (e ∷ entries) name ≡ Some e.value
target_here e entries name h = ap (λ b. cond b (Some e.value) (value_in entries name)) h

-- A declared name gets its value: both records hold it, and what they held of other names.
module _ (suffix : List ℕ) (s : Scope) (entries : List Entry) (entries5 : List Entry5) (x : List ℕ) (v : Primitive) (m : Bool) where
  value_after : (name : List ℕ) → (x ≡ name) ⊎ (bytes_eq x name ≡ false) → (bytes_eq x name ≡ false → HasValue suffix entries entries5 name) → HasValue suffix (record { name = x; binding = Initialized v m } ∷ entries) (record { name = x ++ suffix; value = PrimitiveValue v } ∷ entries5) name
  value_after name (inl e) old = record {
    value = v;
    mutable = m;
    source = source_here _ entries name (ap (λ n. bytes_eq x n) (sym e) ∙ bytes_eq-refl x);
    target = target_here _ entries5 (name ++ suffix) (ap (λ n. bytes_eq (x ++ suffix) (n ++ suffix)) (sym e) ∙ bytes_eq-refl (x ++ suffix));
  }
  value_after name (inr h) old =
      let o = old h in
      let differs : bytes_eq (x ++ suffix) (name ++ suffix) ≡ false = bytes_eq-false (x ++ suffix) (name ++ suffix) (λ e. true_not_false (bytes_eq x name) (ap (λ n. bytes_eq x n) (sym (append_cancel_right x name suffix e)) ∙ bytes_eq-refl x) h) in
      record {
        value = o.value;
        mutable = o.mutable;
        source = source_past _ entries name h ∙ o.source;
        target = target_past _ entries5 (name ++ suffix) differs ∙ o.target;
      }

  pub agrees_after : is_one_of x s.imported ≡ false → Agrees suffix s entries entries5 → Agrees suffix (with_declared s x) (record { name = x; binding = Initialized v m } ∷ entries) (record { name = x ++ suffix; value = PrimitiveValue v } ∷ entries5)
  agrees_after fresh a = record {
    values = λ name h. value_after name (name_cases x name) (λ differs. a.values name (among name h differs));
    hosts = λ name h. host_after name h (a.hosts name h);
    apart = a.apart;
  }
    where
      among : (name : List ℕ) → is_one_of name (s.declared ++ x ∷ []) ≡ true → bytes_eq x name ≡ false → is_one_of name s.declared ≡ true
      among name h differs = by_case (is_one_of-more x s.declared name h)
        where
          by_case : (x ≡ name) ⊎ (is_one_of name s.declared ≡ true) → is_one_of name s.declared ≡ true
          by_case (inl e) = absurd (true_not_false (bytes_eq x name) (ap (λ n. bytes_eq x n) (sym e) ∙ bytes_eq-refl x) differs)
          by_case (inr k) = k

      host_after : (name : List ℕ) → is_one_of name s.imported ≡ true → HasHost entries entries5 name → HasHost (record { name = x; binding = Initialized v m } ∷ entries) (record { name = x ++ suffix; value = PrimitiveValue v } ∷ entries5) name
      host_after name h o = record {
        host = o.host;
        source = source_past _ entries name (bytes_eq-false x name (λ e. true_not_false (is_one_of name s.imported) h (ap (λ n. is_one_of n s.imported) (sym e) ∙ fresh))) ∙ o.source;
        target = target_past _ entries5 name (bytes_eq-false (x ++ suffix) name (λ e. a.apart x name h e)) ∙ o.target;
      }
