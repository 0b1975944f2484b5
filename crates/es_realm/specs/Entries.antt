-- A row of the tables in the code, as the property that it stands for.
use Rattle.es_realm.specs.declared.table.Kept.{Kept}
use Rattle.es_realm.specs.declared.table.Kept.TheVariants.{Method, Iteration, Constant, Text}
use Rattle.es_realm.specs.Tables.{Entry, method, iteration, constant, text}

abbrev pub entry_of : Kept → Entry
entry_of (Method holder name f) = method holder name.now f
entry_of (Iteration holder f) = iteration holder f
entry_of (Constant holder name value) = constant holder name.now value
entry_of (Text holder name value) = text holder name.now value.now
