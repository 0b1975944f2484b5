-- What is kept once a module is added.
use Rattle.std.proofs.Common.{◌≡◌, ℕ, ◌+◌, false, cond, List, [], ◌∷◌, ◌++◌, length, reverse, sym, ap, ◌∙◌, arith}
use Rattle.std.proofs.lemmas.List.{length-map}
use Rattle.std.proofs.lemmas.List.Sums.{sum_by-append}
use Rattle.module_loading.specs.declared.loading.Loading.{Loading}
use Rattle.module_loading.specs.declared.waiting.Wait.{Wait}
use Rattle.module_loading.specs.Loading.{Loaded, paths_of, size_of}
use Rattle.module_loading.specs.Requests.{is_listed, waits}
use Rattle.module_loading.specs.States.{Shows}
use Rattle.module_loading.proofs.Lists.{map-push}

pub shows-added : {M : Type 0} (modules : List (Loaded M)) (rest : List Wait) (old new : Loading M) (path bytes : List ℕ) (made : M) (count total : ℕ) → Shows modules rest old
    → new.paths ≡ cond (is_listed path old.paths) old.paths (old.paths ++ path ∷ []) → is_listed path (paths_of modules) ≡ false → new.modules ≡ old.modules ++ made ∷ []
    → new.size ≡ total → total ≡ old.size + length bytes → reverse new.waiting ≡ waits (length old.modules) count ++ reverse old.waiting
    → Shows (modules ++ record { path = path; bytes = bytes; made = made } ∷ []) (waits (length modules) count ++ rest) new
shows-added {M} modules rest old new path bytes made count total shows paths is_new grown size sum waiting =
    let one : Loaded M = record { path = path; bytes = bytes; made = made } in record {
      paths_are = paths ∙ ap (λ list. cond (is_listed path list) list (list ++ path ∷ [])) shows.paths_are
          ∙ ap (λ b. cond b (paths_of modules) (paths_of modules ++ path ∷ [])) is_new ∙ sym (map-push (λ m. m.path) modules one);
      modules_are = grown ∙ ap (λ list. list ++ made ∷ []) shows.modules_are ∙ sym (map-push (λ m. m.made) modules one);
      size_is = size ∙ sum ∙ ap (λ n. n + length bytes) shows.size_is ∙ sym (sum_by-append (λ m. length m.bytes) modules (one ∷ []) ∙ ap (λ n. size_of modules + n) zero_plus);
      waits_are = waiting ∙ ap (λ n. waits n count ++ reverse old.waiting) (ap length shows.modules_are ∙ length-map modules (λ m. m.made)) ∙ ap (λ list. waits (length modules) count ++ list) shows.waits_are;
    }
  where
    zero_plus : 0 + length bytes ≡ length bytes
    zero_plus = omega arith
