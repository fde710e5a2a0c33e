-- What contracts see of carriers.
use Rattle.capture_model.specs.Views.{payload_view}
use Rattle.ip_segments.specs.Carriers as carriers
use Rattle.ip_segments.specs.declared.carriers.Inner.{Inner}
use Rattle.ip_segments.specs.declared.carriers.Layer.{Layer}
use Rattle.ip_segments.specs.declared.carriers.Layer.TheVariants as layer

abbrev pub layer_view : Layer → carriers.Layer
layer_view (layer.Internet p) = carriers.Internet (payload_view p)
layer_view (layer.Ethernet p) = carriers.Ethernet (payload_view p)
layer_view (layer.Neither x) = carriers.Neither x

abbrev pub inner_view : Inner → carriers.Inner
inner_view i = record { payload = payload_view i.payload; left = i.left }
