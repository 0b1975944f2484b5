-- What blocks, conditions and catches give, by their fields.
use Rattle.std.proofs.Common.{◌≡◌, map}
use Rattle.es6_ast.specs.declared.tree.Block.{Block, out-Block, fold_out-Block}
use Rattle.es6_ast.specs.declared.tree.Catch.{Catch, out-Catch, fold_out-Catch}
use Rattle.es6_ast.specs.declared.tree.Condition.{Condition, out-Condition, fold_out-Condition}
use Rattle.es6_static_semantics.specs.Early.{block_found, block_vars, catch_found, catch_scopes, condition_found, pattern_found, statement_found}

pub block_out : (x : Block) → block_found x ≡ map statement_found (out-Block x).statements
block_out x = rw fold_out-Block

pub condition_scopes : (x : Condition) → (condition_found x).scopes ≡ (statement_found (out-Condition x).body).scopes
condition_scopes x = rw fold_out-Condition

pub condition_vars : (x : Condition) → (condition_found x).vars ≡ (statement_found (out-Condition x).body).vars
condition_vars x = rw fold_out-Condition

pub catch_in : (x : Catch) → (catch_found x).scopes ≡ catch_scopes (pattern_found (out-Catch x).parameter) (map statement_found (out-Block (out-Catch x).body).statements)
catch_in x = rw (fold_out-Catch, block_out)

pub catch_vars : (x : Catch) → (catch_found x).vars ≡ block_vars (map statement_found (out-Block (out-Catch x).body).statements)
catch_vars x = rw (fold_out-Catch, block_out)

pub ruleset condition_out = (condition_scopes, condition_vars)

pub ruleset catch_out = (catch_in, catch_vars)
