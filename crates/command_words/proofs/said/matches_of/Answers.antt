use Rattle.std.proofs.Common.{◌≡◌, ℕ, List, [], ◌∷◌, map, refl, sym, subst, String, string_bytes, true, false, None, inl, inr}
use Rattle.std.specs.Global.{Global}
use Rattle.std.proofs.lemmas.Str.{IsUtf8-string_bytes}
use Rattle.clap.specs.Faults.{fault_of, is_simple_and_free}
use Rattle.clap.specs.Simple.{App, HasMatchesOf}
use Rattle.clap.specs.Kinds.{HasKind, IsAmong, Kinds}
use Rattle.clap.specs.Values.{kind_of}
use Rattle.clap.specs.declared.error.Error.{Error}
use Rattle.clap.specs.declared.error.kind.ErrorKind.{ErrorKind}
use Rattle.clap.specs.declared.error.kind.ErrorKind.TheVariants as kind
use Rattle.clap.specs.declared.parser.matches.ArgMatches.{ArgMatches}
use Rattle.command_words.specs.Said.{IsRefused, said}
use Rattle.command_words.specs.Grammar.{grammar, fault_of_kind, IsMatched}
use Rattle.command_words.proofs.Walks.{AllTexts, what_is_found, what_is_refused}
use Rattle.command_words.proofs.said.matches_of.Goals as goal

all_texts : (words : List (String Global)) → AllTexts (map string_bytes words)
all_texts [] = tt
all_texts (w ∷ ws) = (IsUtf8-string_bytes w, all_texts ws)

-- the parser's clauses, of the command that is built here
found : (a : App) (words : List (List ℕ)) (m : ArgMatches) → a ≡ grammar → AllTexts words → (is_simple_and_free a ≡ true → fault_of a words ≡ []) → HasMatchesOf a words m → IsMatched words m
found a words m is u kinds matches =
    let P : App → Type 0 = λ z. is_simple_and_free z ≡ true → fault_of z words ≡ [] in
    let Q : App → Type 0 = λ z. HasMatchesOf z words m in
    what_is_found words m u (subst P is kinds refl) (subst Q is matches refl).0

among : (k : ErrorKind) (kinds : Kinds) → IsAmong k kinds → kinds ≡ [] → ⊥
among k [] a e = a
among k (x ∷ xs) a e = absurd (cc)

refused : (a : App) (words : List (List ℕ)) (e : Error) → a ≡ grammar → AllTexts words → (is_simple_and_free a ≡ true → HasKind (fault_of a words) e) → IsRefused (said false words) (fault_of_kind (kind_of e))
refused a words e is u kinds =
    let P : App → Type 0 = λ z. is_simple_and_free z ≡ true → HasKind (fault_of z words) e in
    elim (subst P is kinds refl) [
      | inl h ↦ let Q : ErrorKind → Type 0 = λ z. IsRefused (said false words) (fault_of_kind z) in subst Q (sym h) tt
      | inr h ↦ any (kind_of e) (what_is_refused words u (among (kind_of e) (fault_of grammar words) h))
    ]
  where
    any : (k : ErrorKind) → said false words ≡ None → IsRefused (said false words) (fault_of_kind k)
    any kind.OutOfMemory n = tt
    any _ n = n

pub returns-in-Ok : goal.returns-in-Ok
returns-in-Ok c = found _ _ _ (c.in_ok-command.ensures) (all_texts c.args.words.now) c.in-Ok.ensures.kinds c.in-Ok.ensures.matches

pub returns-in-Err : goal.returns-in-Err
returns-in-Err c =
    let P : _ = λ f. IsRefused (said false (map string_bytes c.args.words.now)) f in
    subst P (sym c.fault_of.ensures) (refused _ _ c.in-Err.error c.in_ok-command.ensures (all_texts c.args.words.now) c.in-Err.ensures.kinds)
