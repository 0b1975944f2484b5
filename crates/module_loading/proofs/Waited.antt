-- The requests of a module that are put before those that wait.
use Rattle.std.proofs.Common.{◌≡◌, ℕ, suc, List, [], ◌∷◌, ◌++◌, reverse, sym, ap, ◌∙◌}
use Rattle.std.proofs.lemmas.List.{append_assoc}
use Rattle.module_loading.specs.declared.waiting.Wait.{Wait}
use Rattle.module_loading.specs.Requests.{waits}
use Rattle.module_loading.proofs.Lists.{reverse-push}

pub waited : (importer index left : ℕ) (old new all : List Wait) → index ≡ suc left → new ≡ old ++ record { importer = importer; index = left } ∷ [] → waits importer index ++ reverse old ≡ all
    → waits importer left ++ reverse new ≡ all
waited importer index left old new all is grown before =
    let one : Wait = record { importer = importer; index = left } in
    ap (λ ws. waits importer left ++ reverse ws) grown ∙ ap (λ ws. waits importer left ++ ws) (reverse-push old one)
    ∙ sym (append_assoc (waits importer left) (one ∷ []) (reverse old)) ∙ ap (λ n. waits importer n ++ reverse old) (sym is) ∙ before
