use Rattle.lowering_laws.proofs.Statements.{blocks_are_lawful, branches_are_lawful, choices_are_lawful, declarations_are_lawful, jumps_are_lawful, labelled_are_lawful, returns_are_lawful, switches_are_lawful, tries_are_lawful}
use Rattle.lowering_laws.proofs.statements_are_lawful.Goals as goal

pub returns : goal.returns
returns c = record {
  blocks = blocks_are_lawful;
  declarations = declarations_are_lawful;
  jumps = jumps_are_lawful;
  labelled = labelled_are_lawful;
  branches = branches_are_lawful;
  choices = choices_are_lawful;
  switches = switches_are_lawful;
  returns = returns_are_lawful;
  tries = tries_are_lawful;
}
