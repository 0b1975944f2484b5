use Rattle.std.proofs.Common.{◌≡◌, ◌++◌, map, take}
use Rattle.es6_ast.specs.declared.tree.TemplatePart.{out-TemplatePart}
use Rattle.source_lists.proofs.templates.push_raw.Given as goal

abbrev pub invariant-loop-part : goal.invariant-loop-part
invariant-loop-part l = l.texts ≡ l.fn.texts ++ map (λ p. (out-TemplatePart p).after.raw) (take l.part-index l.parts)
