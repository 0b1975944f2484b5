use Rattle.std.proofs.Common.{refl}
use Rattle.scope_analysis.specs.Scopes.{referred_rows}
use Rattle.scope_analysis.proofs.Gathered.{all_rows, table_of}
use Rattle.scope_analysis.proofs.tables.referred_table.Goals as goal

pub returns : goal.returns
returns c =
    table_of c.of.result c.loop-reference.rows.items _ (all_rows (λ xs. referred_rows c.args.home c.args.globals.now xs) c.args.references.now c.loop-reference.reference-index c.loop-reference.rows.items refl c.loop-reference-test.false c.loop-reference.invariant) c.of.ensures
