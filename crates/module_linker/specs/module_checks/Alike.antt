-- Faults of modules that are the same but for the place that is told.
use Rattle.std.specs.Prelude.{◌≡◌}
use Rattle.module_linker.specs.declared.module_checks.fault.ModuleFault.{ModuleFault}
use Rattle.module_linker.specs.declared.module_checks.fault.ModuleFault.TheVariants.{FileTooLong, NotUtf8, Parse, Early, Outside}

abbrev pub AreAlike : ModuleFault → ModuleFault → Type 0
AreAlike FileTooLong FileTooLong = Unit {0}
AreAlike (NotUtf8 a) (NotUtf8 b) = a ≡ b
AreAlike (Parse p f) (Parse q g) = f ≡ g
AreAlike (Early p r) (Early q s) = r ≡ s
AreAlike (Outside p r) (Outside q s) = r ≡ s
AreAlike _ _ = ⊥
