-- What is kept where loading comes.
use Rattle.std.proofs.Common.{◌≡◌, ℕ, ◌≤◌, Bool, true, false, Result, Ok, Err, IfErr, OnOk, List, [], length, map, reverse, Option, None, sym, ap, ◌∙◌, subst}
use Rattle.std.specs.Prelude.{All}
use Rattle.std.proofs.lemmas.List.{length-map, reverse-reverse}
use Rattle.es_text.specs.declared.Place.{Place}
use Rattle.es6_ast.specs.declared.graph.Request.{Request}
use Rattle.module_loading.specs.declared.fault.LoadFault.{LoadFault}
use Rattle.module_loading.specs.declared.fault.LoadFault.TheVariants as fault
use Rattle.module_loading.specs.declared.loading.Loading.{Loading}
use Rattle.module_loading.specs.declared.waiting.Wait.{Wait}
use Rattle.module_loading.specs.Loading.{Comes, IsFault, IsNext, Loaded, paths_of, the_entry}
use Rattle.module_loading.specs.Requests.{renumbered, zipped}
use Rattle.module_loading.specs.States.{AreWithin, Arrived, Arrives, IsWithin, Shows, Steps, Stops, StopsAfter}
use Rattle.module_loading.specs.Supplying.{AreOut, HandsOut, HoldsBefore, LoadsFrom, StopsWhere}
use Rattle.module_loading.proofs.Coming.{comes-few, comes-within}
use Rattle.module_loading.proofs.Lists.{all-reverse, zipped-maps}

pub shown-paired : {M : Type 0} (modules : List (Loaded M)) (waiting : List Wait) (l : Loading M) → Shows modules waiting l → length l.paths ≡ length l.modules
shown-paired modules waiting l kept =
    ap length kept.paths_are ∙ length-map modules (λ m. m.path) ∙ sym (length-map modules (λ m. m.made)) ∙ ap length (sym kept.modules_are)

module _ {M : Type 0} (told : Option (List ℕ → Option (List ℕ))) (reads : List ℕ → List ℕ → M → Type 0) (requests : M → List Request) (entry : List ℕ) where
  pub arrived-within : (modules : List (Loaded M)) (waiting : List Wait) (l : Loading M) → Comes told reads requests entry modules waiting → Shows modules waiting l → AreWithin requests l
  arrived-within modules waiting l comes kept =
      let all : All (IsWithin requests (map (λ m. m.made) modules)) waiting = comes-within told reads requests comes in
      let W : List Wait → Type 0 = λ ws. All (IsWithin requests l.modules) ws in
      let L : List M → Type 0 = λ list. All (IsWithin requests list) (reverse waiting) in
      let turned : reverse waiting ≡ l.waiting = ap reverse (sym kept.waits_are) ∙ reverse-reverse l.waiting in record {
        paired = shown-paired modules waiting l kept;
        each = subst W turned (subst L (sym kept.modules_are) (all-reverse (IsWithin requests (map (λ m. m.made) modules)) waiting all));
      }

  pub arrived-few : (modules : List (Loaded M)) (waiting : List Wait) (l : Loading M) → Comes told reads requests entry modules waiting → Shows modules waiting l → length l.paths ≤ 1024
  arrived-few modules waiting l comes kept =
      let P : ℕ → Type 0 = λ n. n ≤ 1024 in
      subst P (sym (ap length kept.paths_are ∙ length-map modules (λ m. m.path))) (comes-few told reads requests comes)

  -- the entry comes first
  pub entry-next : (path : List ℕ) → path ≡ entry → IsNext told reads requests entry [] [] None path
  entry-next path is =
      let P : List ℕ → Type 0 = λ p. IsNext told reads requests entry [] [] None p in
      subst P (sym is) the_entry

-- what holds of the modules before a fault, where less is asked
module _ {M F : Type 0} (reads : List ℕ → List ℕ → M → Type 0) (requests : M → List Request) (shows : M → ℕ → Place → Type 0) (refuses : List ℕ → List ℕ → F → Type 0)
    (told : Option (List ℕ → Option (List ℕ))) (entry : List ℕ) where
  holds-weaker : (P Q : List (Loaded M) → Type 0) → ((modules : List (Loaded M)) → P modules → Q modules) → (f : LoadFault F) (is : IsFault told reads requests entry shows refuses f)
      → HoldsBefore reads requests shows refuses told entry P f is → HoldsBefore reads requests shows refuses told entry Q f is
  holds-weaker P Q less (fault.BadSpecifier base place specifier) is h = less is.modules h
  holds-weaker P Q less (fault.TooManyModules base place) is h = less is.modules h
  holds-weaker P Q less (fault.ReadFault path) is h = less is.0 h
  holds-weaker P Q less fault.EntryMissing is h = less [] h
  holds-weaker P Q less (fault.Missing base place specifier) is h = less is.modules h
  holds-weaker P Q less (fault.FileTooLong path) is h = less is.modules h
  holds-weaker P Q less (fault.GraphTooLong path) is h = less is.modules h
  holds-weaker P Q less (fault.InModule path f) is h = less is.modules h
  holds-weaker P Q less fault.OutOfMemory is h = tt

  -- the fault comes after these modules, which are kept as they were handed out
  pub stops : {S : Type 0} (hands : S → List ℕ → List ℕ → S → Type 0) (start now : S) (l : Loading M) (modules : List (Loaded M)) (f : LoadFault F)
      → StopsAfter reads requests shows refuses told entry modules f → l.modules ≡ map (λ m. m.made) modules → HandsOut hands start modules now
      → Stops reads requests shows refuses hands told entry start l now f
  stops hands start now l modules f after kept handed = record {
    is = after.is;
    holds = holds-weaker (λ ms. ms ≡ modules) (λ ms. AreOut hands start l.modules now ms)
        (λ ms e. let P : List (Loaded M) → Type 0 = λ z. AreOut hands start l.modules now z in subst P (sym e) (record { modules_are = kept; handed = handed }))
        f after.is after.holds;
  }

module _ {M F S : Type 0} (reads : List ℕ → List ℕ → M → Type 0) (requests : M → List Request) (shows : M → ℕ → Place → Type 0) (refuses : List ℕ → List ℕ → F → Type 0)
    (hands : S → List ℕ → List ℕ → S → Type 0) (told other : Option (List ℕ → Option (List ℕ))) (entry : List ℕ) (start : S) (same : other ≡ told) where
  pub as-told : (l : Loading M) (now : S) → Arrives reads requests shows refuses hands told entry start l now → Arrives reads requests shows refuses hands other entry start l now
  as-told l now arrives =
      let A : Option (List ℕ → Option (List ℕ)) → Type 0 = λ t. Arrives reads requests shows refuses hands t entry start l now in
      subst A (sym same) arrives

  pub step-arrives : (new : Loading M) (now : S) (more : Bool) → more ≡ true → Steps reads requests shows refuses hands other entry start new now (Ok more)
      → Arrives reads requests shows refuses hands told entry start new now
  step-arrives new now true is steps =
      let A : Option (List ℕ → Option (List ℕ)) → Type 0 = λ t. Arrives reads requests shows refuses hands t entry start new now in
      subst A same steps
  step-arrives new now false is steps = absurd (cc)

  pub step-ends : (new : Loading M) (now : S) (more : Bool) → more ≡ false → Steps reads requests shows refuses hands other entry start new now (Ok more)
      → Arrived reads requests shows refuses hands told entry start new now
  step-ends new now true is steps = absurd (cc)
  step-ends new now false is steps =
      let A : Option (List ℕ → Option (List ℕ)) → Type 0 = λ t. Arrived reads requests shows refuses hands t entry start new now in
      subst A same steps

  pub step-stops : (new : Loading M) (now : S) (f : LoadFault F) → Steps reads requests shows refuses hands other entry start new now (Err f)
      → Stops reads requests shows refuses hands told entry start new now f
  step-stops new now f steps =
      let A : Option (List ℕ → Option (List ℕ)) → Type 0 = λ t. Stops reads requests shows refuses hands t entry start new now f in
      subst A same steps

module _ {M F S : Type 0} (reads : List ℕ → List ℕ → M → Type 0) (requests : M → List Request) (shows : M → ℕ → Place → Type 0) (refuses : List ℕ → List ℕ → F → Type 0)
    (hands : S → List ℕ → List ℕ → S → Type 0) (told : Option (List ℕ → Option (List ℕ))) (entry : List ℕ) (start now : S) (requested : M → List Request → M) (there : List M) (l : Loading M) where
  -- all modules are numbered, or memory ran out
  pub numbered : (ended : Result Unit (LoadFault F)) → Arrived reads requests shows refuses hands told entry start l now
      → OnOk ended (there ≡ zipped (renumbered requests requested l.paths) l.modules l.paths) → IfErr ended (λ f. f ≡ fault.OutOfMemory)
      → LoadsFrom reads requests shows refuses told entry requested hands start there now ended
  numbered (Ok done) arrived are memory = (
    record {
      modules = arrived.modules;
      ends = arrived.comes;
      graph_is = are ∙ ap (λ paths. zipped (renumbered requests requested paths) l.modules paths) arrived.kept.paths_are
          ∙ ap (λ list. zipped (renumbered requests requested (paths_of arrived.modules)) list (paths_of arrived.modules)) arrived.kept.modules_are
          ∙ zipped-maps (renumbered requests requested (paths_of arrived.modules)) (λ m. m.made) (λ m. m.path) arrived.modules;
    },
    arrived.handed,
  )
  numbered (Err f) arrived are memory =
      let P : LoadFault F → Type 0 = λ g. StopsWhere reads requests shows refuses told entry (λ modules. AreOut hands start there now modules) g in
      subst P (sym memory) (record { is = tt; holds = tt })

  -- the modules are as they were handed out
  pub stopped : (f : LoadFault F) (ended : Result Unit (LoadFault F)) → Stops reads requests shows refuses hands told entry start l now f → there ≡ l.modules → ended ≡ Err f
      → LoadsFrom reads requests shows refuses told entry requested hands start there now ended
  stopped f ended stops same is =
      let P : Result Unit (LoadFault F) → Type 0 = λ r. LoadsFrom reads requests shows refuses told entry requested hands start there now r in
      let L : List M → Type 0 = λ list. StopsWhere reads requests shows refuses told entry (λ modules. AreOut hands start list now modules) f in
      subst P (sym is) (subst L (sym same) stops)
