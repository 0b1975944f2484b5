-- A script that is spelled in full, and is nowhere too deep, is read exactly so.
use Rattle.es5_ast.specs.Depth.{most_open}
use Rattle.es5_reading.specs.Laws.{AreAccepted}
use Rattle.es5_reading_laws.specs.Laws.{AreWithin, ShallowScriptsAreRead}

pub shallow-read : AreWithin → AreAccepted → ShallowScriptsAreRead
shallow-read within accepted tokens statements d s o h = accepted tokens statements d s (within most_open tokens statements d o h)
