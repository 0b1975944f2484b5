-- What the first request that waits leads to.
use Rattle.std.proofs.Common.{◌≡◌, ℕ, ◌<◌, ◌≤◌, inl, inr, List, ◌∷◌, Option, Some, None, Result, Ok, Err, refl, sym, ◌∙◌, subst}
use Rattle.std.specs.Prelude.{String, string_bytes}
use Rattle.std.specs.Global.{Global}
use Rattle.std.proofs.lemmas.List.{length-map}
use Rattle.es_text.specs.declared.Place.{Place}
use Rattle.es6_ast.specs.declared.graph.Request.{Request}
use Rattle.module_loading.specs.declared.fault.LoadFault.{LoadFault}
use Rattle.module_loading.specs.declared.fault.LoadFault.TheVariants as fault
use Rattle.module_loading.specs.declared.waiting.Wait.{Wait}
use Rattle.module_loading.specs.Loading.{Comes, HasReadFault, IsFirst, Loaded, goes, past_host, past_loaded, paths_of, the_requested}
use Rattle.module_loading.specs.Requests.{Names, NamesNew, NamesNone}
use Rattle.module_loading.specs.States.{Follows, IsAsked, Picks}

module _ {M F : Type 0} (reads : List ℕ → List ℕ → M → Type 0) (requests : M → List Request) (shows : M → ℕ → Place → Type 0) (refuses : List ℕ → List ℕ → F → Type 0)
    (told : Option (List ℕ → Option (List ℕ))) (entry : List ℕ) where
  -- the request that waits is the first, told in this way
  pub first : (modules : List (Loaded M)) (wait : Wait) (rest : List Wait) (base : List ℕ) (place : Place) (request : Request) → Comes told reads requests entry modules (wait ∷ rest)
      → IsAsked requests shows modules wait base request place → (own : List ℕ) (at : Place) → own ≡ base → at ≡ place → IsFirst told reads requests entry shows modules request own at
  first modules wait rest base place request comes asked own at own_is at_is =
      let P : Place → Type 0 = λ p. shows asked.m.made request.at p in
      record { wait = wait; rest = rest; comes = comes; m = asked.m; is_of = asked.is_of; base_is = own_is ∙ asked.base_is; place_is = subst P (sym at_is) asked.place_is }

  pub follow : (modules : List (Loaded M)) (wait : Wait) (rest : List Wait) (base : List ℕ) (place : Place) (request : Request) (result : Result (Option (String Global)) (LoadFault F))
      → Comes told reads requests entry modules (wait ∷ rest) → IsAsked requests shows modules wait base request place → Picks (paths_of modules) base place request result
      → Follows reads requests shows refuses told entry modules wait rest result
  follow modules wait rest base place request (Ok None) comes asked (inl host) = goes comes (past_host asked.is_of host)
  follow modules wait rest base place request (Ok None) comes asked (inr p) =
      let N : List ℕ → Type 0 = λ b. Names b request p.0 in
      goes comes (past_loaded asked.is_of (subst N asked.base_is p.1) p.2)
  follow modules wait rest base place request (Ok (Some path)) comes asked p =
      let N : List ℕ → Type 0 = λ b. NamesNew (paths_of modules) b request (string_bytes path) in
      let L : ℕ → Type 0 = λ n. n < 1024 in
      the_requested comes asked.is_of (subst N asked.base_is p.0) (subst L (length-map modules (λ m. m.path)) p.1)
  follow modules wait rest base place request (Err (fault.BadSpecifier own at specifier)) comes asked p =
      let N : List ℕ → Type 0 = λ b. NamesNone b request in
      record {
        is = record { modules = modules; request = request; first = first modules wait rest base place request comes asked own at p.1 p.2; names = subst N (sym p.1) p.0; specifier_is = p.3 };
        holds = refl;
      }
  follow modules wait rest base place request (Err (fault.TooManyModules own at)) comes asked p =
      let N : List ℕ → Type 0 = λ b. NamesNew (paths_of modules) b request p.0.0 in
      let L : ℕ → Type 0 = λ n. 1024 ≤ n in
      record {
        is = record {
          modules = modules;
          request = request;
          first = first modules wait rest base place request comes asked own at p.2 p.3;
          path = p.0.0;
          names = subst N (sym p.2) p.0.1;
          full = subst L (length-map modules (λ m. m.path)) p.1;
        };
        holds = refl;
      }
  follow modules wait rest base place request (Err (fault.ReadFault path)) comes asked p = absurd p
  follow modules wait rest base place request (Err fault.EntryMissing) comes asked p = absurd p
  follow modules wait rest base place request (Err (fault.Missing own at specifier)) comes asked p = absurd p
  follow modules wait rest base place request (Err (fault.FileTooLong path)) comes asked p = absurd p
  follow modules wait rest base place request (Err (fault.GraphTooLong path)) comes asked p = absurd p
  follow modules wait rest base place request (Err (fault.InModule path f)) comes asked p = absurd p
  follow modules wait rest base place request (Err fault.OutOfMemory) comes asked p = record { is = tt; holds = tt }

-- no read fails there
pub picks-no_read : {F : Type 0} (paths : List (List ℕ)) (base : List ℕ) (place : Place) (request : Request) (result : Result (Option (String Global)) (LoadFault F)) → Picks paths base place request result
    → HasReadFault result → ⊥
picks-no_read paths base place request (Ok found) p h = absurd (cc (h.1))
picks-no_read paths base place request (Err (fault.BadSpecifier own at specifier)) p h = absurd (cc (h.1))
picks-no_read paths base place request (Err (fault.TooManyModules own at)) p h = absurd (cc (h.1))
picks-no_read paths base place request (Err (fault.ReadFault path)) p h = absurd p
picks-no_read paths base place request (Err fault.EntryMissing) p h = absurd p
picks-no_read paths base place request (Err (fault.Missing own at specifier)) p h = absurd p
picks-no_read paths base place request (Err (fault.FileTooLong path)) p h = absurd p
picks-no_read paths base place request (Err (fault.GraphTooLong path)) p h = absurd p
picks-no_read paths base place request (Err (fault.InModule path f)) p h = absurd p
picks-no_read paths base place request (Err fault.OutOfMemory) p h = absurd (cc (h.1))
