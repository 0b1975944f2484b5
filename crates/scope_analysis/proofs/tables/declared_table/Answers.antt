use Rattle.std.proofs.Common.{refl}
use Rattle.scope_analysis.specs.Scopes.{declared_rows}
use Rattle.scope_analysis.proofs.Gathered.{all_rows, table_of}
use Rattle.scope_analysis.proofs.tables.declared_table.Goals as goal

pub returns : goal.returns
returns c =
    table_of c.of.result c.loop-name.rows.items _ (all_rows (λ xs. declared_rows c.args.home xs) c.args.declared.now c.loop-name.name-index c.loop-name.rows.items refl c.loop-name-test.false c.loop-name.invariant) c.of.ensures
