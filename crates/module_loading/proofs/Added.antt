-- What the file that comes next leads to.
use Rattle.std.proofs.Common.{◌≡◌, ℕ, ◌+◌, ◌<◌, ◌≤◌, List, [], length, Option, Some, None, Result, Ok, Err, IfOk, refl, sym, ap, ◌∙◌, subst}
use Rattle.es_text.specs.declared.Place.{Place}
use Rattle.es6_ast.specs.declared.graph.Request.{Request}
use Rattle.module_loading.specs.declared.fault.LoadFault.{LoadFault}
use Rattle.module_loading.specs.declared.fault.LoadFault.TheVariants as fault
use Rattle.module_loading.specs.declared.loading.Loading.{Loading}
use Rattle.module_loading.specs.declared.unread.Unread.{Unread}
use Rattle.module_loading.specs.declared.unread.Unread.TheVariants.{Refused}
use Rattle.module_loading.specs.declared.waiting.Wait.{Wait}
use Rattle.module_loading.specs.Files.{Holds}
use Rattle.module_loading.specs.Loading.{FollowsFile, IsFileTooLong, IsGraphTooLong, IsMissing, IsNext, IsRefused, Loaded, paths_of, size_of, the_entry, the_requested}
use Rattle.module_loading.specs.Reading.{IfRefused, ReadsTo}
use Rattle.module_loading.specs.Requests.{NamesNew}
use Rattle.module_loading.specs.States.{IsAsked, IsMissingAt, Shows, StopsAfter}
use Rattle.module_loading.proofs.Asked.{one-asked}
use Rattle.module_loading.proofs.Follow.{first}

module _ {M F : Type 0} (reads : List ℕ → List ℕ → M → Type 0) (requests : M → List Request) (shows : M → ℕ → Place → Type 0) (refuses : List ℕ → List ℕ → F → Type 0)
    (told : Option (List ℕ → Option (List ℕ))) (entry : List ℕ) where
  follows-file : (modules : List (Loaded M)) (rest : List Wait) (wait : Option Wait) (path own : List ℕ) → IsNext told reads requests entry modules rest wait path → own ≡ path
      → FollowsFile told reads requests entry modules own
  follows-file modules rest wait path own next is =
      let N : List ℕ → Type 0 = λ p. IsNext told reads requests entry modules rest wait p in
      record { rest = rest; wait = wait; next = subst N (sym is) next }

  pub unread : (modules : List (Loaded M)) (rest : List Wait) (wait : Option Wait) (path own : List ℕ) → IsNext told reads requests entry modules rest wait path → own ≡ path
      → StopsAfter reads requests shows refuses told entry modules (fault.ReadFault own)
  unread modules rest wait path own next is = record { is = (modules, follows-file modules rest wait path own next is); holds = refl }

  pub too-long : (modules : List (Loaded M)) (rest : List Wait) (wait : Option Wait) (path own bytes : List ℕ) → IsNext told reads requests entry modules rest wait path → own ≡ path
      → Holds told path (Some bytes) → 4194304 < length bytes → StopsAfter reads requests shows refuses told entry modules (fault.FileTooLong own)
  too-long modules rest wait path own bytes next is holds long =
      let H : List ℕ → Type 0 = λ p. Holds told p (Some bytes) in record {
        is = record { modules = modules; next = follows-file modules rest wait path own next is; bytes = bytes; holds = subst H (sym is) holds; long = long };
        holds = refl;
      }

  pub too-long-together : (modules : List (Loaded M)) (rest : List Wait) (wait : Option Wait) (path own bytes : List ℕ) → IsNext told reads requests entry modules rest wait path → own ≡ path
      → Holds told path (Some bytes) → length bytes ≤ 4194304 → 16777216 < size_of modules + length bytes
      → StopsAfter reads requests shows refuses told entry modules (fault.GraphTooLong own)
  too-long-together modules rest wait path own bytes next is holds short long =
      let H : List ℕ → Type 0 = λ p. Holds told p (Some bytes) in record {
        is = record { modules = modules; next = follows-file modules rest wait path own next is; bytes = bytes; holds = subst H (sym is) holds; short = short; long = long };
        holds = refl;
      }

  pub refused : (modules : List (Loaded M)) (rest : List Wait) (wait : Option Wait) (path bytes : List ℕ) (f : F) → IsNext told reads requests entry modules rest wait path
      → Holds told path (Some bytes) → length bytes ≤ 4194304 → size_of modules + length bytes ≤ 16777216 → refuses path bytes f
      → StopsAfter reads requests shows refuses told entry modules (fault.InModule path f)
  refused modules rest wait path bytes f next holds short within is = record {
    is = record {
      modules = modules;
      next = follows-file modules rest wait path path next refl;
      bytes = bytes;
      fits = record { holds = holds; short = short; within = within };
      refused = is;
    };
    holds = refl;
  }

  -- no file, where the request that waits names it, or the entry
  pub missing : {modules : List (Loaded M)} {rest : List Wait} {wait : Option Wait} {path : List ℕ} (f : LoadFault F) → IsNext told reads requests entry modules rest wait path → Holds told path None
      → IsMissingAt requests shows modules wait f → StopsAfter reads requests shows refuses told entry modules f
  missing f the_entry none is =
      let P : LoadFault F → Type 0 = λ g. StopsAfter reads requests shows refuses told entry [] g in
      subst P (sym is) (record { is = none; holds = refl })
  missing f (the_requested {modules = modules} {wait = w} {rest = rest} {m = m} {request = request} {path = path} comes is_of names room) none is =
      let base : List ℕ = is.0 in
      let own : Request = is.1 in
      let place : Place = is.2 in
      let asked : IsAsked requests shows modules w base own place = is.3 in
      let same = one-asked requests modules w m asked.m request own is_of asked.is_of in
      let N : Request → Type 0 = λ r. NamesNew (paths_of modules) base r path in
      let B : List ℕ → Type 0 = λ b. NamesNew (paths_of modules) b request path in
      let P : LoadFault F → Type 0 = λ g. StopsAfter reads requests shows refuses told entry modules g in
      let it : IsMissing told reads requests entry shows base place own.specifier = record {
        modules = modules;
        request = own;
        first = first reads requests shows refuses told entry modules w rest base place own comes asked base place refl refl;
        path = path;
        names = subst N same.1 (subst B (ap (λ z. z.path) same.0 ∙ sym asked.base_is) names);
        room = room;
        missing = none;
        specifier_is = refl;
      } in
      subst P (sym is.4) (record { is = it; holds = refl })

-- what is told of a request is told of what waits
pub missing-asked : {M F E : Type 0} (requests : M → List Request) (shows : M → ℕ → Place → Type 0) (l : Loading M) (wait : Wait) (some : Option Wait) (base : List ℕ) (request : Request) (place : Place)
    (result : Result (LoadFault F) E) → some ≡ Some wait → ((modules : List (Loaded M)) (waiting : List Wait) → Shows modules waiting l → IsAsked requests shows modules wait base request place)
    → IfOk result (λ f. f ≡ fault.Missing base place request.specifier) → IfOk result (λ f. (modules : List (Loaded M)) (waiting : List Wait) → Shows modules waiting l → IsMissingAt requests shows modules some f)
missing-asked requests shows l wait some base request place (Ok f) is asked told = λ modules waiting kept.
    let P : Option Wait → Type 0 = λ o. IsMissingAt requests shows modules o f in
    subst P (sym is) (base, request, place, asked modules waiting kept, told)
missing-asked requests shows l wait some base request place (Err e) is asked told = tt

-- what is said of a fault that the reader finds
pub found-fault : {M F : Type 0} (A : M → Type 0) (B : F → Type 0) (unread : Unread F) (f : F) → unread ≡ Refused f → ReadsTo A B (Err unread) → B f
found-fault {M} A B unread f is reads =
    let P : Unread _ → Type 0 = λ u. ReadsTo {M = M} A B (Err u) in
    subst P is reads

pub kept-fault : (M : Type 0) {F : Type 0} (K : Type 0) (unread : Unread F) (f : F) → unread ≡ Refused f → IfRefused {M = M} (Err unread) K → K
kept-fault M K unread f is kept =
    let P : Unread _ → Type 0 = λ u. IfRefused {M = M} (Err u) K in
    subst P is kept
