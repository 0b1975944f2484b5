-- A declaration behind the statements before it: its name, and then what initializes it.
use Rattle.std.proofs.Common.{◌≡◌, List, ◌++◌, ap, ◌∙◌, rules, sym}
use Rattle.std.specs.Option.{option_map}
use Rattle.es5_ast.specs.declared.tree.Declared5.{Declared5, out-Declared5}
use Rattle.es5_ast.specs.declared.tree.Element5.TheFolds.{the_lemmas}
use Rattle.core_ast.specs.declared.parts.Var.{Var}
use Rattle.core_ast.specs.declared.tree.CoreStat.{CoreStat}
use Rattle.script_lowering.specs.declared.gathered.Gathered.{Gathered}
use Rattle.script_lowering.specs.declared.sites.Sites.{Sites}
use Rattle.script_lowering.specs.Nodes.{declared_read, expr_read}
use Rattle.script_lowering.specs.Reading.{Taken, gives, reads_one, reads_perhaps, variable_named}
use Rattle.script_lowering.specs.Statements.{ReadsStats, declared_step, declared_with}

declared_out : (sites : Sites) (d : Declared5) → declared_read sites d ≡ declared_step (record { span = (out-Declared5 d).span; name = (out-Declared5 d).name; init = option_map (expr_read sites) (out-Declared5 d).init })
declared_out sites d = search (rules, the_lemmas)

pub initialized_behind : (sites : Sites) (d : Declared5) (before : List CoreStat) (x : Var) (outside inside : Gathered)
    → gives x inside ≡ variable_named (out-Declared5 d).name.name outside
    → reads_one (reads_perhaps (option_map (expr_read sites) (out-Declared5 d).init)) (λ value. before ++ declared_with x value) inside ≡ reads_one (declared_read sites d) (λ stats. before ++ stats) outside
initialized_behind sites d before x outside inside e =
    let made : Taken Var → Taken (List CoreStat) = λ t. reads_one (reads_perhaps (option_map (expr_read sites) (out-Declared5 d).init)) (λ value. before ++ declared_with t.value value) t.after in
    let behind : ReadsStats → Taken (List CoreStat) = λ r. reads_one r (λ stats. before ++ stats) outside in
    ap made e ∙ sym (ap behind (declared_out sites d))
