-- What is made in a scene, one part after the other.
use Rattle.std.specs.Prelude.{ℕ, true, false, ◌||◌, List, [], ◌∷◌, ◌++◌, Option, None, Some, slice_get}
use Rattle.core_ast.specs.declared.parts.Var.{Var}
use Rattle.emission_rules.specs.declared.scene.Scene.{Scene}
use Rattle.emission_rules.specs.declared.scene.Uses.{Uses}

-- what is made, and the scene behind it
pub record Made (A : Type 0) : Type 0 where
  pub value : A
  pub scene : Scene

abbrev pub Emits : Type 0 → Type 0
Emits A = Scene → Made A

abbrev pub gives : {A : Type 0} → A → Emits A
gives x s = record { value = x; scene = s }

-- each adds to what is made so far
abbrev pub threaded : {A : Type 0} → List (A → Emits A) → A → Emits A
threaded [] x s = gives x s
threaded (f ∷ fs) x s = let m = f x s in threaded fs m.value m.scene

-- each is one element more
abbrev pub in_turn : {A : Type 0} → List (Emits A) → List A → Emits (List A)
in_turn [] xs s = gives xs s
in_turn (f ∷ fs) xs s = let m = f s in in_turn fs (xs ++ m.value ∷ []) m.scene

-- one that may be absent
abbrev pub present : {A : Type 0} → Option (Emits A) → Emits (Option A)
present None s = gives None s
present (Some f) s = let m = f s in gives (Some m.value) m.scene

-- ---- what a scene tells of names

abbrev pub or_empty : Option (List ℕ) → List ℕ
or_empty None = []
or_empty (Some text) = text

abbrev pub text_at : List (List ℕ) → ℕ → List ℕ
text_at texts n = or_empty (slice_get texts n)

abbrev pub name_of : Scene → Var → List ℕ
name_of s x = text_at s.names x.0

-- ---- what is asked of the function round it

abbrev pub no_uses : Uses
no_uses = record { frame = false; target = false; own = false; passed = false }

abbrev pub frame_used : Uses
frame_used = record { frame = true; target = false; own = false; passed = false }

abbrev pub target_used : Uses
target_used = record { frame = true; target = true; own = false; passed = false }

abbrev pub own_used : Uses
own_used = record { frame = false; target = false; own = true; passed = false }

abbrev pub guard_used : Uses
guard_used = record { frame = true; target = false; own = true; passed = false }

abbrev pub passed_used : Uses
passed_used = record { frame = false; target = false; own = false; passed = true }

abbrev pub both : Uses → Uses → Uses
both a b = record {
  frame = a.frame || b.frame;
  target = a.target || b.target;
  own = a.own || b.own;
  passed = a.passed || b.passed;
}

abbrev pub asking : Uses → Scene → Scene
asking uses s = record s { uses = both s.uses uses }
