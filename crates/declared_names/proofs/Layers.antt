-- What a block gives, by its statements.
use Rattle.std.proofs.Common.{◌≡◌, map}
use Rattle.es6_ast.specs.declared.tree.Block.{Block, out-Block, fold_out-Block}
use Rattle.es6_static_semantics.specs.Early.{block_found, statement_found}

pub block_out : (x : Block) → block_found x ≡ map statement_found (out-Block x).statements
block_out x = rw fold_out-Block
