-- A label changes nothing of what the statement behind it declares.
use Rattle.std.proofs.Common.{◌≡◌, ℕ, List, Option, Some, None, refl}
use Rattle.module_lowering.specs.Nodes.{Exited, Listed}
use Rattle.module_lowering.specs.Statements.{with_label}

pub labelled_variables : (at : ℕ) (name : List ℕ) (l : Listed) (e : Option Exited) → (with_label at name l e).listed.variables ≡ l.variables
labelled_variables at name l None = refl
labelled_variables at name l (Some x) = refl

pub labelled_lexicals : (at : ℕ) (name : List ℕ) (l : Listed) (e : Option Exited) → (with_label at name l e).listed.lexicals ≡ l.lexicals
labelled_lexicals at name l None = refl
labelled_lexicals at name l (Some x) = refl

pub labelled_functions : (at : ℕ) (name : List ℕ) (l : Listed) (e : Option Exited) → (with_label at name l e).listed.functions ≡ l.functions
labelled_functions at name l None = refl
labelled_functions at name l (Some x) = refl
