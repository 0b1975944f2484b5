-- Which scripts of the profile are answered for certain, and with which tokens none goes on.
use Rattle.std.specs.Prelude.{◌≡◌, ◌⊎◌, ℕ, false, List, [], ◌++◌, Result, Ok, Err}
use Rattle.std.specs.Str.{chars, IsUtf8}
use Rattle.es5_ast.specs.declared.tree.Script.{Script}
use Rattle.es5_ast.specs.declared.tree.Stat5.{Stat5}
use Rattle.es5_ast.specs.Lexical.{Token5, Tokens5}
use Rattle.es5_ast.specs.Grammar.{Mode5, Exact, Spans, IsProgram}
use Rattle.es5_ast.specs.Early.{script_pairs}
use Rattle.es5_ast.specs.Within.{ProgramWithin}
use Rattle.es5_ast.specs.Script.{IsStrict}
use Rattle.es5_ast.specs.Depth.{most_open}
use Rattle.es5_reading_laws.specs.Laws.{BeginAlike, IsShallow}
use Rattle.es5_break_laws.specs.Breaks.{Breaks}
use Rattle.es5_text.specs.declared.fault.Fault5.{Fault5}
use Rattle.es5_text.specs.declared.fault.Fault5.TheVariants.{OutOfMemory}

-- The bytes spell the script, and among their tokens semicolons are missing only at breaks: where a line ends, before `}` and at the
-- end, before a token that goes on with nothing (7.9.1).
pub record SpellsAtBreaks (bytes : List ℕ) (script : Script) : Type 0 where
  pub utf8 : IsUtf8 bytes
  pub tokens : List Token5
  pub lexed : Tokens5 0 false (chars bytes) tokens
  pub filled : List Token5
  pub breaks : Breaks [] tokens filled
  pub strict : IsStrict filled
  pub parsed : IsProgram Exact filled script.statements
  pub spans : Spans Exact tokens [] script.span
  pub legal : script_pairs script.statements ≡ []

-- At most 2,048 constructs are open at once in its derivation, or at each of its tokens where no semicolon is missing.
abbrev pub FewAreOpen : {bytes : List ℕ} {script : Script} → SpellsAtBreaks bytes script → Type 0
FewAreOpen {script = script} s = ProgramWithin s.parsed most_open ⊎ ((s.tokens ≡ s.filled) × IsShallow most_open s.tokens script.statements)

-- Each such script is the answer, unless memory runs out.
abbrev pub AcceptsAtBreaks : List ℕ → Result Script Fault5 → Type 0
AcceptsAtBreaks bytes result = (script : Script) (spelled : SpellsAtBreaks bytes script) → FewAreOpen spelled → (result ≡ Ok script) ⊎ (result ≡ Err OutOfMemory)

-- No script, with semicolons missing at breaks alone, has tokens that begin with these, and then with the first of the others or, where
-- these are none, end.
abbrev pub NoneGoesOn : List Token5 → List Token5 → Type 0
NoneGoesOn front rest = (mode : Mode5) (others filled : List Token5) (statements : List Stat5) → BeginAlike rest others → Breaks [] (front ++ others) filled → IsStrict filled → IsProgram mode filled statements → ⊥
