-- Templates among operands (ECMA-262, 6th edition, 12.2).
use Rattle.std.proofs.Common.{◌≡◌, ℕ, List, Some, None, refl}
use Rattle.std.specs.Prelude.{codes}
use Rattle.es6_ast.specs.declared.tree.Expression.TheVariants as expr
use Rattle.es6_ast.specs.declared.tree.Template.{Template}
use Rattle.es6_ast.specs.declared.settings.Flags.{Flags}
use Rattle.es6_ast.specs.declared.settings.Role.{Role}
use Rattle.es6_ast.specs.Tokens.{Filled}
use Rattle.es6_reading.specs.Parser.{Input, Inner, Took, on, word}
use Rattle.es6_reading.specs.Expressions.{left, composed}
use Rattle.es6_cursor.specs.declared.halt.Halt.{Halt}
use Rattle.es6_cursor.specs.declared.halt.Halt.TheVariants.{Stopped, OutOfMemory}
use Rattle.es6_cursor.specs.Reads.{Halts}
use Rattle.es6_read_primaries.specs.Links.{one_template}
use Rattle.es6_read_primaries.specs.Composed.{class_of, function_of, held_or_bracketed, held_or_template}
use Rattle.es6_read_primaries.proofs.Follows.{on_one_template, off_one_template, one_template_fault}

pub some_template : (i : Inner) (f : Flags) (role : Role) (at : ℕ) (c d : Input) (m : Template) → one_template i f at c ≡ Took (Some m) d → held_or_template i f role at c ≡ Took (left (expr.Template m)) d
unfolding held_or_template
some_template i f role at c d m h = on_one_template i f at _ _ c d m h

pub no_template : (i : Inner) (f : Flags) (role : Role) (at : ℕ) (c d : Input) → one_template i f at c ≡ Took None d → held_or_template i f role at c ≡ held_or_bracketed i f role at d
unfolding held_or_template
no_template i f role at c d h = off_one_template i f at _ _ c d h

pub template_halts : (i : Inner) (f : Flags) (role : Role) (at : ℕ) (c : Input) (halt : Halt) (ts : List Filled) → Halts (one_template i f at c) halt ts → Halts (held_or_template i f role at c) halt ts
unfolding held_or_template
template_halts i f role at c (Stopped stop) ts h = one_template_fault i f at _ _ c stop ts h
template_halts i f role at c OutOfMemory ts h = tt

pub composed_is : (i : Inner) (f : Flags) (role : Role) (at : ℕ) (c : Input) → composed i f role at c
    ≡ on (word (codes "function")) (λ _. function_of i at) (on (word (codes "class")) (λ _. class_of i f at) (held_or_template i f role at)) c
unfolding composed held_or_template held_or_bracketed function_of class_of
composed_is i f role at c = refl
