-- One script more behind those that are written.
use Rattle.std.proofs.Common.{◌≡◌, ℕ, ◌+◌, ◌<◌, ◌≤◌, List, [], ◌∷◌, ◌++◌, length, take, get_or, sym, ap, ◌∙◌, subst, arith}
use Rattle.std.proofs.lemmas.List.{length-take-le, take_more}
use Rattle.es5_ast.specs.declared.tree.Script.{Script}
use Rattle.es6_ast.specs.declared.graph.LoadedModule.{LoadedModule}
use Rattle.split_emit.specs.declared.scripts.SplitScript.{SplitScript}
use Rattle.split_emit.specs.Split.{AreScriptsFrom, IsScriptAt}

pushed : (ms : List LoadedModule) (k n : ℕ) (xs : List Script) (ss : List SplitScript) (x : Script) (s : SplitScript)
    → AreScriptsFrom ms k xs ss → IsScriptAt ms n x s → n ≡ k + length xs → AreScriptsFrom ms k (xs ++ x ∷ []) (ss ++ s ∷ [])
pushed ms k n [] [] x s are is e =
    let here : n ≡ k = omega (arith, e) in
    (subst (λ p. IsScriptAt ms p x s) here is, tt)
pushed ms k n [] (t ∷ ss) x s are is e = absurd are
pushed ms k n (y ∷ xs) [] x s are is e = absurd are
pushed ms k n (y ∷ xs) (t ∷ ss) x s are is e =
    let further : n ≡ k + 1 + length xs = omega (arith, e) in
    (are.0, pushed ms (k + 1) n xs ss x s are.1 is further)

-- the script at this place of the list is written there
pub more : (ms : List LoadedModule) (xs : List Script) (ss : List SplitScript) (i n : ℕ) (x : Script) (s : SplitScript)
    → i < length xs → x ≡ get_or xs i x → n ≡ i → AreScriptsFrom ms 0 (take i xs) ss → IsScriptAt ms n x s → AreScriptsFrom ms 0 (take (i + 1) xs) (ss ++ s ∷ [])
more ms xs ss i n x s within there place before is =
    let inside : i ≤ length xs = omega (arith, within) in
    let counted : length (take i xs) ≡ i = length-take-le i xs inside in
    let e : n ≡ 0 + length (take i xs) = omega (arith, place, counted) in
    let grown : take i xs ++ x ∷ [] ≡ take (i + 1) xs = ap (λ z. take i xs ++ z ∷ []) there ∙ sym (take_more xs i x within) in
    subst (λ (l : List Script). AreScriptsFrom ms 0 l (ss ++ s ∷ [])) grown (pushed ms 0 n (take i xs) ss x s before is e)
