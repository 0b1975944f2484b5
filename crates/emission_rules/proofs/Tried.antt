-- What is written for small parts of cores, as it is computed from what the fold gives of theirs. Each is the tree of the text beside it,
-- which engines run.
use Rattle.std.proofs.Common.{◌≡◌, ℕ, true, false, List, [], ◌∷◌, None, Some, refl}
use Rattle.std.specs.Prelude.{codes, decimal, ◌++◌}
use Rattle.es_outside.specs.declared.events.Site.{Site}
use Rattle.es_outside.specs.HostNames as words
use Rattle.core_ast.specs.declared.parts.Var.{Var}
use Rattle.core_ast.specs.declared.parts.CoreHead.{CoreHead}
use Rattle.core_ast.specs.declared.parts.CoreHead.TheVariants as head
use Rattle.core_ast.specs.declared.parts.CoreOp.{CoreOp}
use Rattle.core_ast.specs.declared.parts.CoreOp.TheVariants as op
use Rattle.core_ast.specs.declared.parts.Primitive.TheVariants as primitive
use Rattle.core_ast.specs.declared.tree.CoreLink.TheOpen as layer
use Rattle.es5_ast.specs.declared.tree.Expr5 as x5
use Rattle.es5_ast.specs.declared.tree.Expr5.{Expr5}
use Rattle.es5_ast.specs.declared.tree.Expr5.TheVariants as expr
use Rattle.es5_ast.specs.declared.tree.ForFirst5.TheVariants.{NoFirst}
use Rattle.es5_ast.specs.declared.tree.Link5.TheVariants as link
use Rattle.es5_ast.specs.declared.tree.Stat5.TheVariants as stat
use denote.Hole.Carrier as carrier
use Rattle.emission_rules.specs.declared.scene.Closure.{Closure}
use Rattle.emission_rules.specs.declared.scene.Current.{Current}
use Rattle.emission_rules.specs.declared.scene.Scene.{Scene}
use Rattle.emission_rules.specs.Emission as emission
use Rattle.emission_rules.specs.Emission.{Goes, expr_step, label, link_step, stat_step}
use Rattle.emission_rules.specs.Expressions as e
use Rattle.emission_rules.specs.Naming.{hosts_from, names_from, with_names}
use Rattle.emission_rules.specs.Nodes as nodes
use Rattle.emission_rules.specs.Nodes.{integer, name, nothing, nowhere}
use Rattle.emission_rules.specs.Primitives as p
use Rattle.emission_rules.specs.Scenes.{Emits, asking, frame_used, gives, no_uses, target_used}

abbrev scene : Scene
scene = record {
  names = codes "x" ∷ codes "f" ∷ [];
  hosts = codes "print" ∷ [];
  functions = [];
  step = None;
  uses = no_uses;
  framed = false;
  keeps = false;
}

abbrev x : Expr5
x = name (codes "x")

abbrev made : CoreHead → List (Goes Current) → Emits Expr5
made h links = expr_step (record { site = None; head = h; links = links })

abbrev var : ℕ → Var
var n = record { 0 = n }

abbrev the_x : Emits Expr5
the_x = made (head.Variable (var 0)) []

abbrev act : CoreOp → Goes Current
act o = link_step (layer.Strict o [] None)

-- print(x), with the call's site
pub host_call : (at : Site) → made (head.Host 0) (link_step (layer.Strict op.Call (the_x ∷ []) (Some at)) ∷ []) scene
    ≡ gives (expr.Chain nowhere (name (codes "print")) (link.Call nowhere (x ∷ []) (Some at) ∷ [])) scene
unfolding carrier.out x5.out-Expr5 nodes.chained e.head_emitted e.op_emitted e.call_emitted
host_call at = refl

-- (0, x.v)(): what a cell holds is called without a receiver
pub cell_call : made (head.Variable (var 0)) (act op.Content ∷ act op.Call ∷ []) scene
    ≡ gives (expr.Chain nowhere
    (expr.Sequence nowhere (integer 0) (expr.Chain nowhere x (link.Member nowhere (codes "v") ∷ []) ∷ []))
    (link.Call nowhere [] None ∷ [])) scene
unfolding carrier.out x5.out-Expr5 nodes.chained e.head_emitted e.op_emitted e.call_emitted
cell_call = refl

-- check_ready(frame.self): `this` where the frame has it
pub framed_this : made head.This (act (op.Primitive primitive.CheckReady) ∷ []) (record scene { framed = true })
    ≡ gives (nodes.applied (codes "check_ready") (expr.Chain nowhere (name (codes "frame")) (link.Member nowhere (codes "self") ∷ []) ∷ []))
    (record scene { framed = true; uses = frame_used })
unfolding carrier.out x5.out-Expr5 nodes.chained e.head_emitted e.op_emitted p.primitive_emitted p.helper_name
framed_this = refl

-- a closure is taken once, and what it asks is asked of the function that holds it
pub closure : (c : Closure) → made (head.Function (record { 0 = 0 })) [] (record scene { functions = Some c ∷ [] })
    ≡ gives c.value (asking c.uses (record scene { functions = None ∷ [] }))
unfolding e.head_emitted
closure c = refl

pub closure_again : made (head.Function (record { 0 = 0 })) [] (record scene { functions = None ∷ [] })
    ≡ gives nothing (record scene { functions = None ∷ [] })
unfolding e.head_emitted
closure_again = refl

-- frame.target(), called without a receiver: (0, frame.target)()
pub target_call : made (head.Primitive primitive.NewTarget) (act op.Call ∷ []) scene
    ≡ gives (expr.Chain nowhere
    (expr.Sequence nowhere (integer 0) (expr.Chain nowhere (name (codes "frame")) (link.Member nowhere (codes "target") ∷ []) ∷ []))
    (link.Call nowhere [] None ∷ [])) (record scene { uses = target_used })
unfolding carrier.out x5.out-Expr5 nodes.chained e.head_emitted e.op_emitted e.call_emitted p.primitive_emitted
target_call = refl

-- l3: for (; x; ) { continue l3; }
pub loop : stat_step (layer.Loop (record { 0 = 3 } ∷ []) (Some the_x) None (stat_step (layer.Jump true (Some (record { 0 = 3 }))) ∷ [])) [] scene
    ≡ gives (stat.Labelled nowhere (label (record { 0 = 3 }))
    (stat.For nowhere NoFirst (Some x) None (stat.Block (nodes.block (stat.Continue nowhere (Some (label (record { 0 = 3 }))) ∷ [])))) ∷ []) scene
unfolding e.head_emitted emission.jumped emission.label_if
loop = refl

-- a hint is free once; words, hosts and helpers are no names, and neither is what isn't in ASCII
pub names : names_from (codes "$") (with_names [] (codes "call" ∷ codes "print" ∷ [])) 7
    (Some (codes "x") ∷ Some (codes "x") ∷ Some (codes "print") ∷ Some (codes "if") ∷ Some (codes "call") ∷ None ∷ [])
    ≡ codes "x" ∷ (codes "x$" ++ decimal 8) ∷ (codes "print$" ++ decimal 9) ∷ (codes "if$" ++ decimal 10) ∷ (codes "call$" ++ decimal 11)
    ∷ (codes "v$" ++ decimal 12) ∷ []
unfolding words.reserved_words words.special_names words.kept_globals words.known_globals
names = refl

-- a host that is called as a helper has another name in the script
pub hosts : hosts_from (codes "$$") (with_names [] (codes "call" ∷ [])) 4 (codes "call" ∷ codes "p$q" ∷ [])
    ≡ (codes "call$$" ++ decimal 4) ∷ codes "p$q" ∷ []
hosts = refl
