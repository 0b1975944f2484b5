-- What is made in a scene, where memory is there.
use Rattle.std.specs.Prelude.{◌≡◌, Result, IfOk}
use Rattle.emission_rules.specs.declared.scene.Scene.{Scene}
use Rattle.emission_rules.specs.Scenes.{Made, gives}

-- this is made, and this is the scene behind it
abbrev pub Gives : {A E : Type 0} → Result A E → Scene → Made A → Type 0
Gives result s m = IfOk result (λ x. gives x s ≡ m)
