-- What a reader gives, where memory is there, and parts of what it does.
use Rattle.std.specs.Prelude.{Bool, IfOk, List, None, Option, Result, Some, [], codes, length, map, ℕ, ◌++◌, ◌∷◌, ◌≡◌}
use Rattle.core_ast.specs.declared.parts.FunctionId.{FunctionId}
use Rattle.core_ast.specs.declared.tree.CoreStat.{CoreStat}
use Rattle.core_ast.specs.declared.tree.CoreStat.TheVariants as stat
use Rattle.core_ast.specs.declared.whole.CoreFunction.{CoreFunction}
use Rattle.core_ast.specs.declared.whole.CoreKind.TheVariants as kind
use Rattle.es5_ast.specs.declared.tree.Identifier5.{Identifier5}
use Rattle.script_lowering.specs.declared.functions.Head.{Head}
use Rattle.script_lowering.specs.declared.functions.Outside.{Outside}
use Rattle.script_lowering.specs.declared.gathered.Gathered.{Gathered}
use Rattle.script_lowering.specs.Reading.{Reads, Taken, gives, named, reads_each, reads_one, reads_then}
use Rattle.script_lowering.specs.Statements.{ReadsStat, own_named, perhaps_label, single}

-- this is read, and this is gathered then
abbrev pub Gathers : {A E : Type 0} → Result A E → Gathered → Taken A → Type 0
Gathers result g t = IfOk result (λ x. gives x g ≡ t)

-- ---- functions: what one begins with, and what was declared round it

abbrev pub head_read : Option (List ℕ) → List (List ℕ) → Bool → Reads Head
head_read name parameters is_expression =
    reads_then (own_named is_expression name) (λ own.
    reads_then (reads_each (map named parameters)) (λ xs.
    reads_one (named (codes "arguments")) (λ arguments. record { own = own; parameters = xs; arguments = arguments })))

abbrev pub outside_of : Gathered → Outside
outside_of g = record { vars = g.vars; declared = g.declared }

abbrev pub inside_of : Gathered → Gathered
inside_of g = record g { vars = []; declared = [] }

abbrev pub function_from : Head → List CoreStat → Outside → CoreFunction
function_from h body inside = record {
  kind = kind.Plain;
  own = h.own;
  parameters = h.parameters;
  length = length h.parameters;
  arguments = Some h.arguments;
  cells = [];
  locals = inside.vars;
  declared = inside.declared;
  setup = [];
  body = body;
  resumption = None;
  step = [];
}

-- the function goes into the table, and what was declared round it counts again
abbrev pub left : Outside → Head → List CoreStat → Reads FunctionId
left outside h body g = record {
  value = record { 0 = length g.functions };
  after = record g {
    functions = g.functions ++ function_from h body (outside_of g) ∷ [];
    vars = outside.vars;
    declared = outside.declared;
  };
}

-- ---- jumps

abbrev pub jumped : Bool → Option Identifier5 → ReadsStat
jumped goes_on l = reads_one (perhaps_label l) (λ x. single (stat.Jump goes_on x))
