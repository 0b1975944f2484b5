-- Specifiers that are looked up by hash.
use Rattle.std.proofs.Common.{◌≡◌, ℕ, ◌+◌, Bor, Bool, true, false, cond, nat_eq, List, drop, Option, Some, refl, sym, ap, subst, ◌∙◌, inl, inr}
use Rattle.std.specs.Prelude.{slice_get}
use Rattle.std.specs.Str.{bytes_eq}
use Rattle.std.specs.Cmp.Lexicographic.{bytes_decides, nat_list_eq_equiv}
use Rattle.std.specs.Map.{lookup, IsKeyTest, AreApart, KeepsOthers}
use Rattle.std.specs.HashMap.{UpdatesBy, get_by}
use Rattle.std.proofs.lemmas.Bool.{cases_Bool, cond-true, cond-false}
use Rattle.es6_ast.specs.declared.graph.Request.{Request}
use Rattle.es6_static_semantics.specs.Endings.{requested}
use Rattle.lower_walk.proofs.lower_names.Lists.{drop_read}
use Rattle.module_lowering.specs.Modules.{ImportedSpace, module_in, space_at}
use Rattle.graph_bindings.specs.Requests.{Table, asked, is_key}
use Rattle.graph_bindings.specs.Spaces.{Homes, placed}

other_entries : {K X : Type 0} (eq : K → K → Bool) (test : K → Bool) (old new : List (K × X)) → KeepsOthers eq test old new → (other : K → Bool) → IsKeyTest eq other → AreApart test other → lookup other new ≡ lookup other old
unfolding KeepsOthers
other_entries eq test old new h = h

apart : (key q : List ℕ) → bytes_eq key q ≡ false → (k : Bor (List ℕ)) → is_key key k ≡ true → is_key q k ≡ false
apart key q n k y = nat_list_eq_equiv.symm q k.now ∙ sym (nat_list_eq_equiv.congr key k.now q y) ∙ n

-- what is found at a text after a change at another
updated : {V : Type 0} (key : List ℕ) (m n : Table V) (w : Option V) → UpdatesBy (λ x y. bytes_eq x.now y.now) (is_key key) m n w → (q : List ℕ) → get_by (is_key q) n ≡ cond (bytes_eq key q) w (get_by (is_key q) m)
updated key m n w h q =
    elim (cases_Bool (bytes_eq key q)) [
      | inl y ↦ subst (λ l. get_by (is_key l) n ≡ w) ((bytes_decides key q).0 y) h.1 ∙ sym (cond-true (bytes_eq key q) w (get_by (is_key q) m) y)
      | inr e ↦ other_entries _ _ _ _ h.3 _ (λ x y. nat_list_eq_equiv.congr q x.now y.now) (apart key q e) ∙ sym (cond-false (bytes_eq key q) w (get_by (is_key q) m) e)
    ]

-- one request more, before those that are known
pub asked_more : (old new : Table (Option ℕ)) (requests : List Request) (i : ℕ) (r : Request) (key : List ℕ) → key ≡ r.specifier → slice_get requests i ≡ Some r
    → UpdatesBy (λ x y. bytes_eq x.now y.now) (is_key key) old new (Some r.module)
    → ((from : List ℕ) → asked old from ≡ requested (drop (i + 1) requests) from)
    → (from : List ℕ) → asked new from ≡ requested (drop i requests) from
asked_more old new requests i r key named there updates before from =
    updated key old new (Some r.module) updates from
    ∙ ap (λ (o : Option (Option ℕ)). cond (bytes_eq key from) (Some r.module) o) (before from)
    ∙ ap (λ (k : List ℕ). cond (bytes_eq k from) (Some r.module) (requested (drop (i + 1) requests) from)) named
    ∙ ap (λ (rs : List Request). requested rs from) (sym (drop_read requests i r there))

module_cond : (t : Bool) (home : Option ℕ) (o : Option (Option ℕ)) → module_in (cond t (Some home) o) ≡ cond t home (module_in o)
module_cond true home o = refl
module_cond false home o = refl

-- one namespace more, before those that are known
pub placed_more : (old new : Homes) (spaces : List ImportedSpace) (i : ℕ) (s : ImportedSpace) (key : ℕ) (home : Option ℕ) → key ≡ s.at → home ≡ s.home → slice_get spaces i ≡ Some s
    → UpdatesBy nat_eq (nat_eq key) old new (Some home)
    → ((at : ℕ) → placed old at ≡ space_at at (drop (i + 1) spaces))
    → (at : ℕ) → placed new at ≡ space_at at (drop i spaces)
placed_more old new spaces i s key home begins named there updates before at =
    ap module_in (updates.0 at)
    ∙ module_cond (nat_eq key at) home (get_by (nat_eq at) old)
    ∙ ap (λ (o : Option ℕ). cond (nat_eq key at) home o) (before at)
    ∙ ap (λ (k : ℕ). cond (nat_eq k at) home (space_at at (drop (i + 1) spaces))) begins
    ∙ ap (λ (h : Option ℕ). cond (nat_eq s.at at) h (space_at at (drop (i + 1) spaces))) named
    ∙ ap (λ (ss : List ImportedSpace). space_at at ss) (sym (drop_read spaces i s there))
