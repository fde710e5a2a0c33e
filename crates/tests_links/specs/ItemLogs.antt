-- What contracts see of items that were kept.
use Rattle.xot_circuits.specs.Items.{Item}
use Rattle.xot_circuits.specs.Items as item
use Rattle.tests_links.specs.declared.item_log.Kept as declared

abbrev pub kept_view : declared.Kept → Item
kept_view (declared.TheVariants.Packet o s w octets) = item.Packet (record { origin = o; side = s; what = w; octets = octets.items })
kept_view (declared.TheVariants.Gap g) = item.Gap g
kept_view (declared.TheVariants.LeftOut o s w octets) = item.LeftOut (record { origin = o; side = s; what = w; octets = octets.items })
kept_view (declared.TheVariants.Ended e) = item.Ended e
