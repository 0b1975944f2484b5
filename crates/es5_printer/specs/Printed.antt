-- What a printed script is: its own tree's text, and the marks of its calls.
use Rattle.std.specs.Prelude.{◌≡◌, ℕ, ◌+◌, ◌≤◌, Bool, true, ◌&&◌, ◌||◌, ◌==◌, nat_le, List, [], ◌∷◌, ◌++◌, map}
use Rattle.std.specs.List.{list_all}
use Rattle.std.specs.Str.{chars}
use Rattle.es_text.specs.Places.{IsPlace}
use Rattle.es_outside.specs.declared.events.Site.{Site}
use Rattle.es5_ast.specs.declared.tree.Script.{Script}
use Rattle.es5_ast.specs.Grammar.{Mode5, Marked}
use Rattle.es5_ast.specs.Script.{Spells}
use Rattle.es5_ast.specs.Bare.{bare_statements}
use Rattle.es5_printer.specs.declared.mark.Mark.{Mark}
use Rattle.es5_printer.specs.Layout.{limit}
use Rattle.es5_printer.specs.Sites.{script_sites}

-- a call: the offset of its first token, and its site
abbrev pub Call : Type 0
Call = ℕ × Site

-- the mark of a call: at the line and the column of its first token, which is not too far right
pub record IsMarkOf (text : List ℕ) (call : Call) (mark : Mark) : Type 0 where
  pub place : IsPlace text call.0 mark.generated
  pub site : mark.site ≡ call.1
  pub near : mark.generated.column ≤ limit

-- one mark for each call
abbrev pub AreMarksOf : List ℕ → List Call → List Mark → Type 0
AreMarksOf text [] [] = Unit {0}
AreMarksOf text [] (m ∷ marks) = ⊥
AreMarksOf text (c ∷ calls) [] = ⊥
AreMarksOf text (c ∷ calls) (m ∷ marks) = IsMarkOf text c m × AreMarksOf text calls marks

-- each call begins after the one before it, and none before an offset
abbrev pub IsRising : ℕ → List Call → Type 0
IsRising least [] = Unit {0}
IsRising least (c ∷ calls) = (least ≤ c.0) × IsRising (c.0 + 1) calls

-- printable ASCII, or a line feed
abbrev pub is_printable : ℕ → Bool
is_printable c = (nat_le 32 c && nat_le c 126) || (c == 10)

-- the last line ends, too
abbrev pub EndsLine : List ℕ → Type 0
EndsLine bytes = (front : List ℕ) × (bytes ≡ front ++ 10 ∷ [])

-- The bytes are spelled by the script, spans and sites aside, and by no other. The calls are exactly those that carry a site, in
-- text order, and each site stands among them with the offset of its own call's first token. The marks are those of the calls.
pub record IsPrinted (script : Script) (bytes : List ℕ) (marks : List Mark) : Type 0 where
  pub calls : List Call
  pub spelled : Spells (Marked calls) bytes script
  pub only : (mode : Mode5) (other : Script) → Spells mode bytes other → bare_statements other.statements ≡ bare_statements script.statements
  pub sites : map (λ c. c.1) calls ≡ script_sites script
  pub marked : AreMarksOf (chars bytes) calls marks
  pub rising : IsRising 0 calls
  pub printable : list_all is_printable bytes ≡ true
  pub ended : EndsLine bytes
