use Rattle.std.proofs.Common.{refl}
use Rattle.definition_examples.proofs.limits.a_text_has_at_most_1000000_mappings.Goals as goal

pub returns-clause-room : goal.returns-clause-room
returns-clause-room c ms count = rw count refl

pub returns-clause-no_room : goal.returns-clause-no_room
returns-clause-no_room c ms count = rw count refl

pub returns-clause-room_for_an_entry : goal.returns-clause-room_for_an_entry
returns-clause-room_for_an_entry c ps new count = rw (new, count) refl

pub returns-clause-no_room_for_an_entry : goal.returns-clause-no_room_for_an_entry
returns-clause-no_room_for_an_entry c ps new count = rw (new, count) refl
