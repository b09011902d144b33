use Rattle.rules.proofs.Grows.{insert_formed, insert_flat, insert_numbers, insert_size, grow_agrees}
use Rattle.rules.proofs.Sorts.{insert_sorted}
use Rattle.rules.proofs.insertion_stands.Goals as goal

pub returns : goal.returns
returns g c = record { formed = insert_formed; gains = insert_flat; numbers = insert_numbers; size = insert_size; sorted = insert_sorted; agrees = grow_agrees }
