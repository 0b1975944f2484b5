-- Which variables are the last of their kind, from the last on, and which functions count by that.
use Rattle.std.proofs.Common.{◌≡◌, ℕ, ◌+◌, Bool, true, false, cond, ◌||◌, not, nat_eq, List, [], ◌∷◌, ◌++◌, drop, map, Some, refl, sym, ap, ◌∙◌}
use Rattle.std.specs.Prelude.{slice_get, reverse}
use Rattle.std.specs.List.{list_any}
use Rattle.std.proofs.lemmas.List.{reverse-append}
use Rattle.core_ast.specs.declared.parts.Var.{Var}
use Rattle.module_lowering.specs.declared.context.Context.{Context}
use Rattle.module_lowering.specs.Bindings.{Bindings, declared_var}
use Rattle.module_lowering.specs.Names.{is_declared_by, last_ones, vars_at}
use Rattle.module_lowering.specs.Nodes.{Hoisted}
use Rattle.lower_walk.specs.lower_names.Counting.{counting, has_var, is_same, kept, last_ones_of}
use Rattle.lower_walk.proofs.lower_names.Lists.{drop_read}

pub flags_more : (vars : List Var) (i : ℕ) (v : Var) (flags : List Bool) (new : Bool) → slice_get vars i ≡ Some v → flags ≡ reverse (last_ones_of (drop (i + 1) vars)) → new ≡ not (has_var v.0 (drop (i + 1) vars)) → flags ++ new ∷ [] ≡ reverse (last_ones_of (drop i vars))
flags_more vars i v flags new e f n =
    let rest : List Var = drop (i + 1) vars in
    ap (λ (x : List Bool). x ++ new ∷ []) f
    ∙ ap (λ (x : Bool). reverse (last_ones_of rest) ++ x ∷ []) n
    ∙ sym (reverse-append (not (has_var v.0 rest) ∷ []) (last_ones_of rest))
    ∙ ap (λ (x : List Var). reverse (last_ones_of x)) (sym (drop_read vars i v e))

or_cond : (t b : Bool) → cond t true b ≡ (t || b)
or_cond true b = refl
or_cond false b = refl

pub seen_more : (vars : List Var) (i : ℕ) (v : Var) (before after : ℕ → Bool) → slice_get vars i ≡ Some v → ((k : ℕ) → before k ≡ has_var k (drop (i + 1) vars)) → ((k : ℕ) → after k ≡ cond (nat_eq v.0 k) true (before k)) → (k : ℕ) → after k ≡ has_var k (drop i vars)
seen_more vars i v before after e b a k =
    a k
    ∙ or_cond (nat_eq v.0 k) (before k)
    ∙ ap (λ (x : Bool). nat_eq v.0 k || x) (b k)
    ∙ ap (λ (x : List Var). has_var k x) (sym (drop_read vars i v e))

-- of places as of variables
same_place : (b : Bindings) (c : Context) (at : ℕ) (ats : List ℕ) → has_var (declared_var b c at).0 (vars_at ats b c) ≡ list_any (is_same b c at) ats
same_place b c at [] = refl
same_place b c at (x ∷ xs) = ap (λ (t : Bool). is_same b c at x || t) (same_place b c at xs)

pub counting_by : (b : Bindings) (c : Context) (ats : List ℕ) → last_ones_of (vars_at ats b c) ≡ counting b c ats
counting_by b c [] = refl
counting_by b c (x ∷ xs) =
    ap (λ (t : Bool). not t ∷ last_ones_of (vars_at xs b c)) (same_place b c x xs)
    ∙ ap (λ (ts : List Bool). not (list_any (is_same b c x) xs) ∷ ts) (counting_by b c xs)

-- the functions that count are those at these places
same_function : (b : Bindings) (c : Context) (at : ℕ) (hs : List Hoisted) → list_any (is_declared_by b c at) hs ≡ list_any (is_same b c at) (map (λ h. h.at) hs)
same_function b c at [] = refl
same_function b c at (h ∷ hs) = ap (λ (t : Bool). is_declared_by b c at h || t) (same_function b c at hs)

kept_one : (t : Bool) (bs : List Bool) (h : Hoisted) (hs : List Hoisted) → cond t (kept bs hs) (h ∷ kept bs hs) ≡ kept (not t ∷ bs) (h ∷ hs)
kept_one true bs h hs = refl
kept_one false bs h hs = refl

pub last_ones_kept : (b : Bindings) (c : Context) (hs : List Hoisted) → last_ones b c hs ≡ kept (counting b c (map (λ h. h.at) hs)) hs
last_ones_kept b c [] = refl
last_ones_kept b c (h ∷ hs) =
    let ats : List ℕ = map (λ h. h.at) hs in
    ap (λ (t : Bool). cond t (last_ones b c hs) (h ∷ last_ones b c hs)) (same_function b c h.at hs)
    ∙ ap (λ (xs : List Hoisted). cond (list_any (is_same b c h.at) ats) xs (h ∷ xs)) (last_ones_kept b c hs)
    ∙ kept_one (list_any (is_same b c h.at) ats) (counting b c ats) h hs
