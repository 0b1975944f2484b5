use Rattle.lowering_laws.proofs.References.{accesses_are_lawful, assignments_are_lawful, compounds_are_lawful, found_are_lawful, found_hosts_are_called, members_are_lawful, new_are_lawful, reached_calls_are_lawful, reached_tags_are_lawful, reads_are_lawful, updates_are_lawful}
use Rattle.lowering_laws.proofs.references_are_lawful.Goals as goal

pub returns : goal.returns
returns c = record {
  found = found_are_lawful;
  hosts = found_hosts_are_called;
  accesses = accesses_are_lawful;
  members = members_are_lawful;
  reads = reads_are_lawful;
  constructions = new_are_lawful;
  assignments = assignments_are_lawful;
  compounds = compounds_are_lawful;
  updates = updates_are_lawful;
  calls = reached_calls_are_lawful;
  tags = reached_tags_are_lawful;
}
