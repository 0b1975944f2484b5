-- What stands between the beginning and the end of a scope that may not be there.
use Rattle.std.proofs.Common.{◌≡◌, ℕ, Bool, true, false, List, ◌++◌, Option, Some, None, refl, sym}
use Rattle.std.proofs.lemmas.List.{append-nil}
use Rattle.es6_ast.specs.declared.tree.Identifier.{Identifier}
use Rattle.scope_rules.specs.Marks.{body_scope, own_scope}
use Rattle.scope_rules.specs.declared.mark.Mark.{Mark}
use Rattle.scope_rules.specs.declared.kinds.Kind.{Kind}
use Rattle.scope_heads.specs.Heads.{body_begins, body_ends, own_begins, own_ends}

pub own_around : (k : Kind) (end : ℕ) (name : Option Identifier) (marks : List Mark) → own_scope k end name marks ≡ own_begins k end name ++ marks ++ own_ends name
own_around k end None marks = sym (append-nil marks)
own_around k end (Some x) marks = refl

pub body_around : (is_own : Bool) (end : ℕ) (marks : List Mark) → body_scope is_own end marks ≡ body_begins is_own end ++ marks ++ body_ends is_own
body_around true end marks = refl
body_around false end marks = sym (append-nil marks)
