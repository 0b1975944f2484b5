-- A function declaration that is borrowed from a tree, as the fold has it.
use Rattle.module_lowering.specs.Lowered.{function_lowered}
use Rattle.module_lowering.specs.Nodes.{Hoisted}
use Rattle.module_lowering.specs.declared.context.FunctionForm.TheVariants.{PlainForm}
use Rattle.lower_listed.specs.declared.functions.HoistedAt.{HoistedAt}

abbrev pub hoisted_of : HoistedAt → Hoisted
hoisted_of h = record { at = h.at; made = (function_lowered h.function.now).lowered PlainForm }
