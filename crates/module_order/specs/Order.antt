-- The order in which the modules of a graph are evaluated (ECMA-262, 6th edition, 15.2.1.16.5). A module is a number, and a graph has
-- of each the list of those that it requests.
use Rattle.std.specs.Prelude.{ℕ, zero, suc, Bool, true, false, cond, length, get_or, set, replicate, List, [], ◌∷◌, ◌++◌}
use Rattle.module_order.specs.declared.walk.Evaluation.{Evaluation}

-- [[Evaluated]] of a module
abbrev pub is_marked : ℕ → Evaluation → Bool
is_marked m e = get_or e.marks m true

abbrev pub requests_of : List (List ℕ) → ℕ → List ℕ
requests_of graph m = get_or graph m []

-- step 5
abbrev pub marked : ℕ → Evaluation → Evaluation
marked m e = record e { marks = set e.marks m true }

-- steps 7 to 16
abbrev pub ran : ℕ → Evaluation → Evaluation
ran m e = record e { order = e.order ++ m ∷ [] }

abbrev pub one_by_one : (ℕ → Evaluation → Evaluation) → List ℕ → Evaluation → Evaluation
one_by_one f [] e = e
one_by_one f (m ∷ ms) e = one_by_one f ms (f m e)

-- ModuleEvaluation, over chains of at most so many requests: a module that isn't evaluated yet (step 4) is marked, those that it
-- requests are evaluated (step 6), and then it runs
abbrev pub evaluated : ℕ → List (List ℕ) → ℕ → Evaluation → Evaluation
evaluated zero graph m e = e
evaluated (suc depth) graph m e =
    cond (is_marked m e) e (ran m (one_by_one (evaluated depth graph) (requests_of graph m) (marked m e)))

-- nothing is evaluated yet
abbrev pub nothing : ℕ → Evaluation
nothing count = record { marks = replicate count false; order = [] }

-- the modules that are reached from the entry. Each on a chain is another, so that as many as there are modules is deep enough.
abbrev pub evaluation_order : List (List ℕ) → ℕ → List ℕ
evaluation_order graph entry = (evaluated (length graph) graph entry (nothing (length graph))).order
