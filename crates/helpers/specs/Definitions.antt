-- What the script of a core defines: the wanted statements of the script that the text is.
use Rattle.std.specs.Prelude.{◌≡◌, ◌⊎◌, ℕ, List, Result, Ok, Err}
use Rattle.es5_ast.specs.declared.tree.Script.{Script}
use Rattle.es5_ast.specs.declared.tree.Stat5.{Stat5}
use Rattle.es5_text.specs.declared.fault.Fault5.{Fault5}
use Rattle.es5_text.specs.declared.fault.Fault5.TheVariants.{OutOfMemory}
use Rattle.es5_text.specs.Accepted.{FewAreOpen, SpellsAtBreaks}
use Rattle.es5_text.specs.Parsed.{IsParsed}
use Rattle.helpers.specs.Text.{text_bytes}
use Rattle.helpers.specs.Wanted.{kept}

-- The bytes of the text spell a script, of which these are the statements that define one of the names.
pub record AreDefinitions (names : List (List ℕ)) (statements : List Stat5) : Type 0 where
  pub script : Script
  pub parsed : IsParsed text_bytes script
  pub taken : statements ≡ kept names script.statements

-- Where the text is a script, with semicolons missing at breaks alone, these are the answer, unless memory runs out.
abbrev pub AnswersAtBreaks : List (List ℕ) → Result (List Stat5) Fault5 → Type 0
AnswersAtBreaks names result = (script : Script) (spelled : SpellsAtBreaks text_bytes script) → FewAreOpen spelled
    → (result ≡ Ok (kept names script.statements)) ⊎ (result ≡ Err OutOfMemory)
