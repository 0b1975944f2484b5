-- The bytes of a module are read in one way: as one module, or with faults that are all of a limit, or none is.
use Rattle.std.proofs.Common.{◌≡◌, Bool, true, false, refl, ap}
use Rattle.es6_expr.specs.declared.fault.ParseFault.{ParseFault}
use Rattle.es6_expr.specs.declared.fault.ParseFault.TheVariants as parses
use Rattle.module_linker.specs.declared.module_checks.fault.ModuleFault.{ModuleFault}
use Rattle.module_linker.specs.declared.module_checks.fault.ModuleFault.TheVariants.{FileTooLong, NotUtf8, Parse, Early, Outside}
use Rattle.module_linker.specs.module_checks.Alike.{AreAlike}
use Rattle.module_linker.specs.module_checks.Reading.{IsRead}
use Rattle.module_linker.proofs.module_checks.Determined.{one_fault, one_module, read_no_fault}
use Rattle.module_linker.specs.Loading.{refuses}
use Rattle.module_loading.proofs.OneLoad.{IsOneWay}

-- whether a fault is one of a limit
abbrev pub is_depth : ParseFault → Bool
is_depth (parses.Depth at) = true
is_depth _ = false

abbrev pub is_module_limit : ModuleFault → Bool
is_module_limit FileTooLong = true
is_module_limit (Parse place fault) = is_depth fault
is_module_limit _ = false

alike_limit : (f g : ModuleFault) → AreAlike f g → is_module_limit f ≡ is_module_limit g
alike_limit FileTooLong FileTooLong e = refl
alike_limit (NotUtf8 a) (NotUtf8 b) e = refl
alike_limit (Parse p f) (Parse q g) e = ap is_depth e
alike_limit (Early p r) (Early q s) e = refl
alike_limit (Outside p r) (Outside q s) e = refl
alike_limit _ _ e = absurd e

pub one_way : IsOneWay IsRead refuses is_module_limit
one_way = record {
  one_module = one_module;
  no_fault = λ path bytes m f r h. read_no_fault path bytes m f r h;
  one_fault = λ path bytes f g h k. alike_limit f g (one_fault bytes f g h k);
}
