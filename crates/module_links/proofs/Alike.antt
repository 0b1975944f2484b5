-- Graphs whose modules differ in their endings alone.
use Rattle.std.proofs.Common.{◌≡◌, ℕ, zero, suc, false, List, [], ◌∷◌, length, map, Some, refl, sym, ap, ◌∙◌, subst, arith}
use Rattle.std.specs.Prelude.{AllPairs, slice_get}
use Rattle.std.specs.List.{Contains}
use Rattle.std.proofs.lemmas.Option.{slice_get-get_or}
use Rattle.es6_ast.specs.declared.graph.EndOf.{EndOf}
use Rattle.es6_ast.specs.declared.graph.Graph.{Graph}
use Rattle.es6_ast.specs.declared.graph.LoadedModule.{LoadedModule}
use Rattle.es6_static_semantics.specs.Early.{early_pairs}
use Rattle.es6_static_semantics.specs.Endings.{AllResolve, none_wanted, one_wanted, Elsewhere, Ends, EndsElsewhere, at_binding, at_other_name, by_star, in_module, in_host, OtherName, Resolves, Wanted, exports, is_exported, own_entry, requested, stars, wants}
use Rattle.es6_static_semantics.specs.Graphs.{AreLoaded, no_module, one_module, IsLinked, IsLoaded, IsText}
use Rattle.module_endings.proofs.Gets.{some-same}
use Rattle.module_links.specs.Links.{AreLinked, IsLinkable, linked_with}
use Rattle.module_links.specs.Zips.{zipped}
use Rattle.module_resolution.specs.Summaries.{AreLegal}

zipped-get : {A B : Type 0} (f : A → B → A) (xs : List A) (ys : List B) (k : ℕ) (z : A) → slice_get (zipped f xs ys) k ≡ Some z → (x : A) × (y : B) × (slice_get xs k ≡ Some x) × (slice_get ys k ≡ Some y) × (f x y ≡ z)
zipped-get f [] ys k z e = absurd (cc)
zipped-get f (x ∷ xs) [] k z e = absurd (cc)
zipped-get f (x ∷ xs) (y ∷ ys) zero z e = (x, y, refl, refl, some-same e)
zipped-get f (x ∷ xs) (y ∷ ys) (suc k) z e = zipped-get f xs ys k z e

zipped-there : {A B : Type 0} (f : A → B → A) (xs : List A) (ys : List B) → length ys ≡ length xs → (k : ℕ) (x : A) → slice_get xs k ≡ Some x → (y : B) × (slice_get (zipped f xs ys) k ≡ Some (f x y))
zipped-there f [] ys size k x e = absurd (cc)
zipped-there f (z ∷ xs) [] size k x e = absurd (omega (arith, size))
zipped-there f (z ∷ xs) (y ∷ ys) size zero x e = (y, ap (λ w. Some (f w y)) (some-same e))
zipped-there f (z ∷ xs) (y ∷ ys) size (suc k) x e = zipped-there f xs ys (omega (arith, size)) k x e

zipped-length : {A B : Type 0} (f : A → B → A) (xs : List A) (ys : List B) → length ys ≡ length xs → length (zipped f xs ys) ≡ length xs
zipped-length f [] ys size = refl
zipped-length f (x ∷ xs) [] size = absurd (omega (arith, size))
zipped-length f (x ∷ xs) (y ∷ ys) size = ap suc (zipped-length f xs ys (omega (arith, size)))

-- each module of the one graph stands in the other, with the same tree and requests
pub record IsAlike (g h : Graph) : Type 0 where
  pub there : (i : ℕ) (m : LoadedModule) → slice_get g.modules i ≡ Some m → (n : LoadedModule) × (slice_get h.modules i ≡ Some n) × (n.tree ≡ m.tree) × (n.requests ≡ m.requests)

mutual
  ends-alike : (g h : Graph) (hosts : List (List ℕ)) → IsAlike g h → {i : ℕ} {name : List ℕ} {end : EndOf} → Ends g hosts i name end → Ends h hosts i name end
  ends-alike g h hosts alike {i = i} {name = name} {end = end} (at_binding m binding end2 there c e) =
      let n = alike.there i m there in
      at_binding n.0 binding end n.1 (subst (λ t. Contains (exports t) (own_entry name binding)) (sym n.2) c) e
  ends-alike g h hosts alike {i = i} {name = name} {end = end} (at_other_name m other end2 there c rest) =
      let n = alike.there i m there in
      at_other_name n.0 other end n.1 (subst (λ t. Contains (exports t) (record { name = name; source = OtherName other })) (sym n.2) c) (elsewhere-alike g h hosts alike n.0 n.3 rest)
  ends-alike g h hosts alike {i = i} {name = name} {end = end} (by_star m from end2 there no_default hidden c rest) =
      let n = alike.there i m there in
      by_star n.0 from end n.1 no_default (subst (λ t. is_exported t name ≡ false) (sym n.2) hidden) (subst (λ t. Contains (stars t) from) (sym n.2) c) (elsewhere-alike g h hosts alike n.0 n.3 rest)

  elsewhere-alike : (g h : Graph) (hosts : List (List ℕ)) → IsAlike g h → {m : LoadedModule} {other : Elsewhere} {end : EndOf} (n : LoadedModule) → n.requests ≡ m.requests → EndsElsewhere g hosts m other end → EndsElsewhere h hosts n other end
  elsewhere-alike g h hosts alike {m = m} {other = other} {end = end} n same (in_module i end2 e rest) = in_module i end (ap (λ rs. requested rs other.from) same ∙ e) (ends-alike g h hosts alike rest)
  elsewhere-alike g h hosts alike {m = m} {other = other} {end = end} n same (in_host i end2 e there is) = in_host i end (ap (λ rs. requested rs other.from) same ∙ e) there is

resolves-alike : (g h : Graph) (hosts : List (List ℕ)) → IsAlike g h → IsAlike h g → (m n : LoadedModule) → n.requests ≡ m.requests → (other : Elsewhere) (end : EndOf) → Resolves g hosts m other end → Resolves h hosts n other end
resolves-alike g h hosts there back m n same other end resolves =
    record { ends = elsewhere-alike g h hosts there n same resolves.ends; alone = λ e is. resolves.alone e (elsewhere-alike h g hosts back m (sym same) is) }

all-alike : (g h : Graph) (hosts : List (List ℕ)) → IsAlike g h → IsAlike h g → (m n : LoadedModule) → n.requests ≡ m.requests → {ws : List Wanted} {ends : List EndOf} → AllResolve g hosts m ws ends → AllResolve h hosts n ws ends
all-alike g h hosts there back m n same none_wanted = none_wanted
all-alike g h hosts there back m n same (one_wanted {w = w} {e = e} first rest) = one_wanted (resolves-alike g h hosts there back m n same w.other e first) (all-alike g h hosts there back m n same rest)

text-again : (bytes : List ℕ) (m : LoadedModule) (ends : List EndOf) → IsText bytes m → IsText bytes (linked_with m ends)
text-again bytes m ends t = record { within = t.within; utf8 = t.utf8; lines = t.lines; tokens = t.tokens; lexed = t.lexed; spelled = t.spelled; shallow = t.shallow }

loaded-again : (count : ℕ) {texts : List (List ℕ)} {ms : List LoadedModule} → AreLoaded count texts ms → (all : List (List EndOf)) → length all ≡ length ms → AreLoaded count texts (zipped linked_with ms all)
loaded-again count no_module all size = no_module
loaded-again count (one_module one rest) [] size = absurd (omega (arith, size))
loaded-again count (one_module {bytes = bytes} {m = m} one rest) (ends ∷ all) size =
    one_module (record { text = text-again bytes m ends one.text; legal = one.legal; inside = one.inside; specified = one.specified; requested = one.requested })
    (loaded-again count rest all (omega (arith, size)))

-- the modules of a loaded graph have no early errors
pub are-legal : (count : ℕ) {texts : List (List ℕ)} {ms : List LoadedModule} → AreLoaded count texts ms → AreLegal ms
are-legal count no_module i m there = absurd (cc)
are-legal count (one_module one rest) zero m there = let P : LoadedModule → Type 0 = λ n. early_pairs n.tree ≡ [] in subst P (some-same there) one.legal
are-legal count (one_module one rest) (suc i) m there = are-legal count rest i m there

pub linkable : (g : Graph) → IsLoaded g → IsLinkable g
linkable g loaded = record { few = loaded.sound.few; legal = are-legal (length g.modules) loaded.sound.loaded }

same-paths : (ms : List LoadedModule) (all : List (List EndOf)) → length all ≡ length ms → map (λ m. m.path) (zipped linked_with ms all) ≡ map (λ m. m.path) ms
same-paths [] all size = refl
same-paths (m ∷ ms) [] size = absurd (omega (arith, size))
same-paths (m ∷ ms) (ends ∷ all) size = ap (λ rest. m.path ∷ rest) (same-paths ms all (omega (arith, size)))

-- a loaded graph into which its endings are put is linked
pub relinked : (g h : Graph) (hosts : List (List ℕ)) (all : List (List EndOf)) → IsLoaded g → AreLinked g hosts (length g.modules) all → h.modules ≡ zipped linked_with g.modules all → IsLinked h hosts
relinked g h hosts all loaded linked are =
    let there : IsAlike g h = record { there = λ i m at. (let n = zipped-there linked_with g.modules all linked.size i m at in (linked_with m n.0, ap (λ ms. slice_get ms i) are ∙ n.1, refl, refl)) } in
    let back : IsAlike h g = record { there = λ i n at. (let p = zipped-get linked_with g.modules all i n (ap (λ ms. slice_get ms i) (sym are) ∙ at) in (p.0, p.2, ap (λ z. z.tree) p.4, ap (λ z. z.requests) p.4)) } in
    let size : length h.modules ≡ length g.modules = ap length are ∙ zipped-length linked_with g.modules all linked.size in
    let P : LoadedModule → Type 0 = λ m. AllResolve h hosts m (wants m.tree) m.endings in
    let paths : map (λ m. m.path) h.modules ≡ map (λ m. m.path) g.modules = ap (λ ms. map (λ m. m.path) ms) are ∙ same-paths g.modules all linked.size in
    let again : AreLoaded (length h.modules) loaded.sound.texts h.modules
    = subst (λ n. AreLoaded n loaded.sound.texts h.modules) (sym size) (subst (λ ms. AreLoaded (length g.modules) loaded.sound.texts ms) (sym are) (loaded-again (length g.modules) loaded.sound.loaded all linked.size)) in
    record {
      sound = record {
        some = omega (arith, size, loaded.sound.some);
        few = omega (arith, size, loaded.sound.few);
        distinct = subst (λ ps. AllPairs (λ p q. p ≡ q → ⊥) ps) (sym paths) loaded.sound.distinct;
        texts = loaded.sound.texts;
        within = loaded.sound.within;
        loaded = again;
      };
      linked = λ k d inside. (
          let at = slice_get-get_or h.modules k d inside in
          let p = zipped-get linked_with g.modules all k _ (ap (λ ms. slice_get ms k) (sym are) ∙ at) in
          subst P p.4 (all-alike g h hosts there back p.0 (linked_with p.0 p.1) refl (linked.each k p.0 p.1 p.2 p.3)));
    }
