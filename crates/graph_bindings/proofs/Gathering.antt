-- Lists that a loop gathers, one item or one part more.
use Rattle.std.proofs.Common.{◌≡◌, ℕ, ◌+◌, ◌++◌, List, [], ◌∷◌, Option, None, refl, sym, ap, ◌∙◌, add-one, append_assoc, append-nil, arith}
use Rattle.std.specs.Prelude.{replicate}
use Rattle.core_ast.specs.declared.parts.Var.{Var}

pub appended : {B : Type 0} (old new : List B) (x y : B) (from rest left whole : List B) → new ≡ old ++ x ∷ [] → x ≡ y → from ≡ y ∷ rest → left ≡ rest → old ++ from ≡ whole → new ++ left ≡ whole
appended old new x y from rest left whole grown same first next known =
    ap (λ l. l ++ left) grown
    ∙ append_assoc old (x ∷ []) left
    ∙ ap (λ z. old ++ z ∷ left) same
    ∙ ap (λ r. old ++ y ∷ r) next
    ∙ ap (λ l. old ++ l) (sym first)
    ∙ known

pub joined_on : {B : Type 0} (old new part from rest whole : List B) → new ≡ old ++ part → from ≡ part ++ rest → old ++ from ≡ whole → new ++ rest ≡ whole
joined_on old new part from rest whole grown first known =
    ap (λ l. l ++ rest) grown ∙ append_assoc old part rest ∙ ap (λ l. old ++ l) (sym first) ∙ known

pub ended : {B : Type 0} (old from whole : List B) → from ≡ [] → old ++ from ≡ whole → old ≡ whole
ended old from whole none known = sym (append-nil old) ∙ ap (λ l. old ++ l) (sym none) ∙ known

pub unnamed_more : {B : Type 0} (old new whole : List (Option B)) (n i : ℕ) → n ≡ i + 1 → new ≡ old ++ None ∷ [] → old ++ replicate n None ≡ whole → new ++ replicate i None ≡ whole
unnamed_more old new whole n i back grown known =
    appended old new None None (replicate n None) (replicate i None) (replicate i None) whole grown refl
    (ap (λ (k : ℕ). replicate k None) (back ∙ add-one i)) refl known

pub unnamed_end : {B : Type 0} (old whole : List (Option B)) (n : ℕ) → n ≡ 0 → old ++ replicate n None ≡ whole → old ≡ whole
unnamed_end old whole n none known = ended old (replicate n None) whole (ap (λ (k : ℕ). replicate k None) none) known

-- a sum of which one number more is taken
pub summed : (count names end len before rest total : ℕ) → end ≡ count + names → names ≡ len → before ≡ len + rest → count + before ≡ total → end + rest ≡ total
summed count names end len before rest total e n b t = omega (arith, e, n, b, t)

pub var_end : (x : Var) (count names len : ℕ) → x ≡ record { 0 = count + names } → names ≡ len → x.0 ≡ count + len
var_end x count names len e n = ap (λ (v : Var). v.0) e ∙ ap (λ (k : ℕ). count + k) n
