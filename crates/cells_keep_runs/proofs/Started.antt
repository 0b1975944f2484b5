-- The beginnings are related.
use Rattle.std.proofs.Common.{◌≡◌, ℕ, zero, suc, ◌+◌, ◌<◌, ◌≤◌, Bool, true, false, ◌||◌, List, [], ◌∷◌, ◌++◌, map, Option, None, Some, length, nat_eq, slice_get, refl, sym, ap, arith, subst, ◌∙◌}
use Rattle.std.specs.Prelude.{if◌then◌else◌, is_some}
use Rattle.std.proofs.lemmas.List.{length-map, map-append}
use Rattle.es_value.specs.declared.value.Value.TheVariants as value
use Rattle.core_ast.specs.Mentions.{part_mentions}
use Rattle.core_ast.specs.declared.parts.ScopedName.{ScopedName}
use Rattle.core_ast.specs.declared.parts.Var.{Var}
use Rattle.core_ast.specs.declared.whole.CorePart.{CorePart}
use Rattle.core_meaning.specs.Marks.{Mark}
use Rattle.core_meaning.specs.Modules.{body_in, numbers_from, part_body, part_record}
use Rattle.core_meaning.specs.Names.{binding_in, record_at}
use Rattle.core_meaning.specs.State.{Binding, Done, Environment, EnvironmentRecord, Hand, User}
use Rattle.pass_rules.specs.Cells.{is_among}
use Rattle.pass_rules.specs.Scopes.{local, part_flat, stats_flat, vars}
use Rattle.cells_keep_runs.specs.Memory.{Keeping, Memory, Names, OpenAt, Seat, Seats, cell_found, image_in, images, in_image, is_scoped, with_image}
use Rattle.cells_keep_runs.specs.Places.{Below}
use Rattle.cells_keep_runs.specs.Related.{at_same, none}
use Rattle.cells_keep_runs.specs.Started.{BeginningsAreRelated, ScopedApart, owners_of, part_seat, part_seats}
use Rattle.cells_keep_runs.proofs.Grown.{below_cons, below_here, below_rest}
use Rattle.cells_keep_runs.proofs.Writes.{differ, not_none, one_value}

abbrev Records : Type 0
Records = List (EnvironmentRecord Mark)

-- ---- the record of a module

abbrev bound_name : ScopedName → Binding Mark
bound_name n = record { var = n.var; value = User value.Undefined; mutable = n.mutable }

abbrev record_of : List ScopedName → EnvironmentRecord Mark
record_of names = map bound_name names

found_by : (n : ScopedName) (xs ys : EnvironmentRecord Mark) (x : Var) (b : Binding Mark) (is : Bool) → (if is then Some (bound_name n) else binding_in xs x) ≡ Some b
    → (binding_in xs x ≡ Some b → binding_in (xs ++ ys) x ≡ Some b) → (if is then Some (bound_name n) else binding_in (xs ++ ys) x) ≡ Some b
found_by n xs ys x b true h on = h
found_by n xs ys x b false h on = on h

found_first : (names : List ScopedName) (ys : EnvironmentRecord Mark) (x : Var) (b : Binding Mark) → binding_in (record_of names) x ≡ Some b → binding_in (record_of names ++ ys) x ≡ Some b
found_first [] ys x b h = cc
found_first (n ∷ names) ys x b h = found_by n (record_of names) ys x b (nat_eq n.var.0 x.0) h (λ i. found_first names ys x b i)

some_by : (n : ScopedName) (xs : EnvironmentRecord Mark) (x : Var) (r is : Bool) → is_some (binding_in xs x) ≡ r → is_some (if is then Some (bound_name n) else binding_in xs x) ≡ is || r
some_by n xs x r true h = refl
some_by n xs x r false h = h

some_named : (names : List ScopedName) (x : Var) → is_some (binding_in (record_of names) x) ≡ is_among x (vars names)
some_named [] x = refl
some_named (n ∷ names) x = some_by n (record_of names) x (is_among x (vars names)) (nat_eq n.var.0 x.0) (some_named names x)

rest_false : (a b : Bool) → a || b ≡ false → b ≡ false
rest_false true b h = absurd (differ true refl h)
rest_false false b h = h

first_false : (a b : Bool) → a || b ≡ false → a ≡ false
first_false true b h = h
first_false false b h = refl

past_all : (names : List ScopedName) (ys : EnvironmentRecord Mark) (x : Var) → is_among x (vars names) ≡ false → binding_in (record_of names ++ ys) x ≡ binding_in ys x
past_all [] ys x h = refl
past_all (n ∷ names) ys x h =
    ap (λ is. if is then Some (bound_name n) else binding_in (record_of names ++ ys) x) (first_false (nat_eq n.var.0 x.0) (is_among x (vars names)) h)
    ∙ past_all names ys x (rest_false (nat_eq n.var.0 x.0) (is_among x (vars names)) h)

-- a local that may be written
record Local (scoped : List ScopedName) (x : Var) : Type 0 where
  binding : Binding Mark
  there : binding_in (record_of (map local scoped)) x ≡ Some binding
  mutable : binding.mutable ≡ true

local_by : (n : ScopedName) (scoped : List ScopedName) (x : Var) (is : Bool) → nat_eq n.var.0 x.0 ≡ is → is || is_among x (vars scoped) ≡ true → (is_among x (vars scoped) ≡ true → Local scoped x) → Local (n ∷ scoped) x
local_by n scoped x true e h on =
    record { binding = bound_name (local n); there = ap (λ is. if is then Some (bound_name (local n)) else binding_in (record_of (map local scoped)) x) e; mutable = refl }
local_by n scoped x false e h on =
    let o : Local scoped x = on h in
    record { binding = o.binding; there = ap (λ is. if is then Some (bound_name (local n)) else binding_in (record_of (map local scoped)) x) e ∙ o.there; mutable = o.mutable }

local_found : (scoped : List ScopedName) (x : Var) → is_among x (vars scoped) ≡ true → Local scoped x
local_found [] x h = absurd (differ false h refl)
local_found (n ∷ scoped) x h = local_by n scoped x (nat_eq n.var.0 x.0) refl h (λ i. local_found scoped x i)

module _ (kept : Keeping) (table : List ℕ) where
  abbrev flat : CorePart → CorePart
  flat p = part_flat table p

  flat_record : (p : CorePart) → part_record (flat p) ≡ record_of p.names ++ record_of (map local (part_mentions p).scoped)
  flat_record p = map-append bound_name p.names (map local (part_mentions p).scoped)

  -- ---- the records of all modules

  record_is : (ps : List CorePart) (n : ℕ) (p : CorePart) → slice_get ps n ≡ Some p → record_at (map part_record ps) n ≡ part_record p
  record_is [] n p h = cc
  record_is (q ∷ ps) zero p h = ap (λ a. part_record a) (one_value (Some q) q p refl h)
  record_is (q ∷ ps) (suc n) p h = record_is ps n p h

  flat_is : (ps : List CorePart) (n : ℕ) (p : CorePart) → slice_get ps n ≡ Some p → record_at (map part_record (map flat ps)) n ≡ part_record (flat p)
  flat_is [] n p h = cc
  flat_is (q ∷ ps) zero p h = ap (λ a. part_record (flat a)) (one_value (Some q) q p refl h)
  flat_is (q ∷ ps) (suc n) p h = flat_is ps n p h

  record PartOf (ps : List CorePart) (k n : ℕ) (here : Seat) : Type 0 where
    part : CorePart
    at : slice_get ps n ≡ Some part
    is : here ≡ part_seat kept table (k + n) part

  next_part : (q : CorePart) (ps : List CorePart) (k n : ℕ) (here : Seat) → PartOf ps (suc k) n here → PartOf (q ∷ ps) k (suc n) here
  next_part q ps k n here o = let e : suc k + n ≡ k + suc n = omega arith in record { part = o.part; at = o.at; is = o.is ∙ ap (λ m. part_seat kept table m o.part) e }

  part_of : (ps : List CorePart) (k n : ℕ) (here : Seat) → slice_get (part_seats kept table k ps) n ≡ Some here → PartOf ps k n here
  part_of [] k n here h = cc
  part_of (q ∷ ps) k zero here h =
      let e : k + 0 ≡ k = omega arith in
      record { part = q; at = refl; is = one_value (Some here) here (part_seat kept table (k + 0) q) refl (sym h ∙ ap (λ m. Some (part_seat kept table m q)) (sym e)) }
  part_of (q ∷ ps) k (suc n) here h = next_part q ps k n here (part_of ps (suc k) n here h)

  seat_of : (ps : List CorePart) (k n : ℕ) → n < length ps → (here : Seat) × (slice_get (part_seats kept table k ps) n ≡ Some here)
  seat_of [] k n l = absurd (omega arith)
  seat_of (q ∷ ps) k zero l = (part_seat kept table k q, refl)
  seat_of (q ∷ ps) k (suc n) l = seat_of ps (suc k) n (omega arith)

  bound_below : (ps : List CorePart) (n : ℕ) (x : Var) (b : Binding Mark) → binding_in (record_at (map part_record ps) n) x ≡ Some b → n < length ps
  bound_below [] n x b h = cc
  bound_below (q ∷ ps) zero x b h = omega arith
  bound_below (q ∷ ps) (suc n) x b h = let l : n < length ps = bound_below ps n x b h in omega arith

  length_seats : (ps : List CorePart) (k : ℕ) → length (part_seats kept table k ps) ≡ length ps
  length_seats [] k = refl
  length_seats (q ∷ ps) k = ap (λ n. suc n) (length_seats ps (suc k))

  part_below : (ps : List CorePart) (n : ℕ) (p : CorePart) → slice_get ps n ≡ Some p → n < length ps
  part_below [] n p h = cc
  part_below (q ∷ ps) zero p h = omega arith
  part_below (q ∷ ps) (suc n) p h = let l : n < length ps = part_below ps n p h in omega arith

  apart_at : (ps : List CorePart) (n : ℕ) (p : CorePart) → ScopedApart ps → slice_get ps n ≡ Some p → (x : Var) → is_among x (vars (part_mentions p).scoped) ≡ true → is_among x (vars p.names) ≡ false
  apart_at [] n p apart h x among = cc
  apart_at (q ∷ ps) zero p (one, apart) h x among =
      let e : q ≡ p = one_value (Some q) q p refl h in
      subst (λ a. is_among x (vars (part_mentions a).scoped) ≡ true → is_among x (vars a.names) ≡ false) e (one x) among
  apart_at (q ∷ ps) (suc n) p (one, apart) h x among = apart_at ps n p apart h x among

  module _ (ps : List CorePart) (apart : ScopedApart ps) where
    abbrev seats : Seats
    seats = part_seats kept table 0 ps

    abbrev rs : Records
    rs = map part_record ps

    abbrev ts : Records
    ts = map part_record (map flat ps)

    -- the seat with this number
    record At (n : ℕ) (here : Seat) : Type 0 where
      part : CorePart
      at : slice_get ps n ≡ Some part
      is : here ≡ part_seat kept table n part
      below : n < length ts

    at_of : (n : ℕ) (here : Seat) → slice_get seats n ≡ Some here → At n here
    at_of n here h =
        let o : PartOf ps 0 n here = part_of ps 0 n here h in
        let e : 0 + n ≡ n = omega arith in
        let l : n < length ps = part_below ps n o.part o.at in
        let m : length ts ≡ length ps = length-map (map flat ps) part_record ∙ length-map ps flat in
        record { part = o.part; at = o.at; is = o.is ∙ ap (λ a. part_seat kept table a o.part) e; below = omega arith }

    image_of : (n i : ℕ) (here : Seat) → At n here → here.image ≡ Some i → n ≡ i
    image_of n i here a h = one_value here.image n i (ap (λ b. b.image) a.is) h

    unscoped : (n : ℕ) (here : Seat) (x : Var) → At n here → is_scoped here x ≡ true → ⊥
    unscoped n here x a h = differ (is_scoped here x) h (ap (λ b. is_scoped b x) a.is)

    no_cells : (n k : ℕ) (here : Seat) (x : Var) → At n here → cell_found here.cells x ≡ Some k → ⊥
    no_cells n k here x a h = not_none (cell_found here.cells x) k h (ap (λ b. cell_found b.cells x) a.is)

    name_of : (n : ℕ) (x : Var) (b : Binding Mark) → binding_in (record_at rs n) x ≡ Some b → Names table seats ts [] n x b
    name_of n x b bound =
        let s = seat_of ps 0 n (bound_below ps n x b bound) in
        let a : At n s.0 = at_of n s.0 s.1 in
        let here : binding_in (record_of a.part.names) x ≡ Some b = ap (λ r. binding_in r x) (sym (record_is ps n a.part a.at)) ∙ bound in
        in_image s.0 n b s.1 (ap (λ c. c.image) a.is) (ap (λ c. is_scoped c x) a.is)
        (ap (λ r. binding_in r x) (flat_is ps n a.part a.at ∙ flat_record a.part) ∙ found_first a.part.names (record_of (map local (part_mentions a.part).scoped)) x b here)
        (record { value = refl; mutable = refl })

    shape_of : (n i : ℕ) (here : Seat) (x : Var) → At n here → here.image ≡ Some i → is_some (binding_in (record_at ts i) x) ≡ is_among x here.has
    shape_of n i here x a image =
        ap (λ m. is_some (binding_in (record_at ts m) x)) (sym (image_of n i here a image)) ∙ ap (λ r. is_some (binding_in r x)) (flat_is ps n a.part a.at)
        ∙ some_named (flat a.part).names x ∙ ap (λ b. is_among x b.has) (sym a.is)

    open_of : (n i : ℕ) (here : Seat) (x : Var) → At n here → here.image ≡ Some i → is_among x here.locals ≡ true → OpenAt ts i x
    open_of n i here x a image local_is =
        let among : is_among x (vars (part_mentions a.part).scoped) ≡ true = ap (λ b. is_among x b.locals) (sym a.is) ∙ local_is in
        let o : Local (part_mentions a.part).scoped x = local_found (part_mentions a.part).scoped x among in
        record {
          binding = o.binding;
          there = ap (λ m. binding_in (record_at ts m) x) (sym (image_of n i here a image)) ∙ ap (λ r. binding_in r x) (flat_is ps n a.part a.at ∙ flat_record a.part)
              ∙ past_all a.part.names (record_of (map local (part_mentions a.part).scoped)) x (apart_at ps n a.part apart a.at x among) ∙ o.there;
          mutable = o.mutable;
        }

    memory : Memory table seats rs ts []
    memory = record {
      seated = length_seats ps 0 ∙ sym (length-map ps part_record);
      names = λ n x b bound. name_of n x b bound;
      images_made = λ n i here at image. subst (λ m. m < length ts) (image_of n i here (at_of n here at) image) (at_of n here at).below;
      homes_made = λ n here at. subst (λ b. b.home < length ts) (sym (at_of n here at).is) (at_of n here at).below;
      cells_made = λ n k here x at found. absurd (no_cells n k here x (at_of n here at) found);
      images_apart = λ n m i here there at at2 image image2. image_of n i here (at_of n here at) image ∙ sym (image_of m i there (at_of m there at2) image2);
      homes_apart = λ n m here there x at at2 image scoped. absurd (unscoped m there x (at_of m there at2) scoped);
      cells_apart = λ n m k here there x y at at2 scoped scoped2 found found2. absurd (unscoped n here x (at_of n here at) scoped);
      shapes = λ n i here x at image. shape_of n i here x (at_of n here at) image;
      locals_open = λ n i here x at image local_is. open_of n i here x (at_of n here at) image local_is;
      kept = λ n i k x keeps. absurd (no_cells n k keeps.seat x (at_of n keeps.seat keeps.seated) keeps.found);
      kept_unbound = λ n i k x keeps. absurd (no_cells n k keeps.seat x (at_of n keeps.seat keeps.seated) keeps.found);
      kept_apart = λ n i k m x there keeps at home. absurd (no_cells n k keeps.seat x (at_of n keeps.seat keeps.seated) keeps.found);
    }

    -- ---- environments

    same_by : (n : ℕ) (e : Environment) (o : Option Seat) → slice_get seats n ≡ o → n < length seats → with_image (image_in o) e ≡ n ∷ e
    same_by n e None at l =
        let m : n < length ps = (let q : length seats ≡ length ps = length_seats ps 0 in omega arith) in
        absurd (not_none (slice_get seats n) (seat_of ps 0 n m).0 (seat_of ps 0 n m).1 at)
    same_by n e (Some here) at l = ap (λ b. with_image b.image e) (at_of n here at).is

    images_same : (e : Environment) → Below (length seats) e → images seats e ≡ e
    images_same [] below = refl
    images_same (n ∷ e) below =
        ap (λ a. with_image (image_in (slice_get seats n)) a) (images_same e (below_rest (length seats) n e below)) ∙ same_by n e (slice_get seats n) refl (below_here (length seats) n e below)

  numbers_flat : (n : ℕ) (ps : List CorePart) → numbers_from n (map flat ps) ≡ numbers_from n ps
  numbers_flat n [] = refl
  numbers_flat n (p ∷ ps) = ap (λ e. n ∷ e) (numbers_flat (suc n) ps)

  numbers_below : (m k : ℕ) (ps : List CorePart) → k + length ps ≤ m → Below m (numbers_from k ps)
  numbers_below m k [] l = refl
  numbers_below m k (p ∷ ps) l =
      let q : k + suc (length ps) ≤ m = l in
      let here : k < m = omega arith in
      let next : suc k + length ps ≤ m = omega arith in
      below_cons m k (numbers_from (suc k) ps) here (numbers_below m (suc k) ps next)

  -- ---- bodies

  begun_flat : (ps : List CorePart) → map (λ p. p.instantiate) (map flat ps) ≡ map (stats_flat table) (map (λ p. p.instantiate) ps)
  begun_flat [] = refl
  begun_flat (p ∷ ps) = ap (λ bs. stats_flat table p.instantiate ∷ bs) (begun_flat ps)

  body_flat : (ps : List CorePart) (n : ℕ) → body_in (slice_get (map flat ps) n) ≡ stats_flat table (body_in (slice_get ps n))
  body_flat [] n = refl
  body_flat (p ∷ ps) zero = refl
  body_flat (p ∷ ps) (suc n) = body_flat ps n

  all_bodies : (ps : List CorePart) (ns : List ℕ) → map (λ n. body_in (slice_get (map flat ps) n)) ns ≡ map (stats_flat table) (map (λ n. body_in (slice_get ps n)) ns)
  all_bodies ps [] = refl
  all_bodies ps (n ∷ ns) =
      ap (λ b. b ∷ map (λ m. body_in (slice_get (map flat ps) m)) ns) (body_flat ps n) ∙ ap (λ bs. stats_flat table (body_in (slice_get ps n)) ∷ bs) (all_bodies ps ns)

pub beginnings : BeginningsAreRelated
beginnings core kept apart =
    let table = owners_of core in
    let ps = core.parts in
    let flats = map (λ p. part_flat table p) ps in
    let all = part_seats kept table 0 ps in
    let long : length all ≡ length ps = length_seats kept table ps 0 in
    let below : Below (length all) (numbers_from 0 ps) = numbers_below kept table (length all) 0 ps (omega arith) in
    at_same (Hand Done) tt
    (record {
      states = record {
        heap = refl;
        memory = memory kept table ps apart;
        closures = tt;
        callers = tt;
        ahead = ap (λ bs. bs ++ map (λ n. body_in (slice_get flats n)) core.order) (begun_flat kept table ps)
            ∙ ap (λ bs. map (stats_flat table) (map (λ p. p.instantiate) ps) ++ bs) (all_bodies kept table ps core.order)
            ∙ sym (map-append (stats_flat table) (map (λ p. p.instantiate) ps) (map (part_body core) core.order));
        this_values = refl;
        generators = tt;
        namespaces = refl;
        templates = refl;
        statics = refl;
      };
      environment = numbers_flat kept table 0 ps ∙ sym (images_same kept table ps apart (numbers_from 0 ps) below);
      below = below;
      receiver = refl;
      site = refl;
      own = record { this_record = refl; callee = refl; target = refl; home = refl; passed = refl };
    })
    none
