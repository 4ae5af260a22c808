use Rattle.mi_image.specs.Items.{machine_over}
use Rattle.mi_model.specs.Listings.{clients_text_of}
use Rattle.mi_commands.proofs.obey.list_clients.Goals as goal

pub returns : goal.returns
returns c held files = c.listed.ensures (clients_text_of (machine_over held files c.args.image.now)) (c.clients_text.ensures held files)
